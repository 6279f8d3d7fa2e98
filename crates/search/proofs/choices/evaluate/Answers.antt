-- `search::choices::evaluate` meets its contract: the cells below i are evaluated, under whatever choice those below `start` were.
use Rattle.std.proofs.Common.{◌≡◌, ◌<◌, length, arith}
use Rattle.graph.specs.Columns.{at}
use Rattle.search.proofs.States.{truth_next, valued_seen, valued_value, valued_more}
use Rattle.search.proofs.choices.evaluate.Goals as goal

-- The signals are those of the choice that was asked for.
pub value-requires : goal.value-requires
value-requires c =
    let a = c.args.cells.now in
    let v = c.loop-i.invariant.0 c.requires.choice c.requires.valued in
    rw (c.gate.ensures.truth, c.gate.ensures.sees) (valued_seen a.program.right v (omega (arith, c.requires.within, c.loop-i-test.true)) a.truth.now a.truths)

pub loop-i-preserved : goal.loop-i-preserved
loop-i-preserved c =
    let a = c.args.cells.now in
    let l = c.loop-i in (
      λ n v.
          let w = l.invariant.0 n v in
          let q : l.i < length a.program.kind.now = omega (arith, c.requires.within, c.loop-i-test.true) in
          valued_more a.program.right w q (valued_value a.program.right w q ((rw (c.gate.ensures.truth, c.gate.ensures.sees) at c.value.ensures.1) (at a.program.kind.now l.i) (truth_next a.truth.now l.i a.program.right a.truths q))),
      omega arith,
    )

pub returns : goal.returns
returns c =
    let l = c.loop-i in
    let e : c.max.result ≡ l.i = omega (arith, c.max.ensures) in
    record { after = omega arith; reached = omega (arith, c.max.ensures); carried = rw e l.invariant.0 }

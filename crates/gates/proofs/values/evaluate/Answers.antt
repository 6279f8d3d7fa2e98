-- `gates::values::evaluate` meets its contract: the gates passed are evaluated.
use Rattle.std.proofs.Common.{suc, ◌+◌, map, add-one, arith, refl, sym, ap₂, ◌∙◌}
use lib.ListN.{set}
use Rattle.theory.specs.Gate.{gate}
use Rattle.graph.specs.Columns.{at}
use Rattle.gates.specs.inner.Gates.{evaluated}
use Rattle.gates.proofs.Words.{part_length}
use Rattle.gates.proofs.Row.{bits_set, placed_seen, evaluated_more}
use Rattle.gates.proofs.values.evaluate.Goals as goal

pub loop-node-init : goal.loop-node-init
unfolding evaluated
loop-node-init c = (c.requires.bits, λ kind t. refl)

pub value-requires : goal.value-requires
value-requires c =
    let a = c.args in
    let g = a.gates in
    let l = c.loop-node in
    rw (c.gate.ensures.truth, c.gate.ensures.sees, ← add-one) (placed_seen g.truth.now g.first.now g.list.now a.base a.sig.now l.sig (at g.node.now l.node-index) (c.requires.placed l.node-index (omega arith)) (omega arith) l.invariant.0)

pub loop-node-preserved : goal.loop-node-preserved
loop-node-preserved c =
    let a = c.args in
    let g = a.gates in
    let l = c.loop-node in
    let v = at g.node.now l.node-index in
    let p = c.requires.placed l.node-index (omega arith) in (
      bits_set l.sig (a.base + v) c.value.result c.value.ensures.0 l.invariant.0,
      λ kind t.
          let e = l.invariant.1 kind t in
          ap₂ (λ s x. set s (a.base + v) x) e
          (c.value.ensures.1 (at kind v) (rw (c.gate.ensures.truth, c.gate.ensures.sees, part_length g.list.now (at g.first.now v) (at g.first.now (suc v)) p.in_list) (t l.node-index (omega arith)))
          ∙ ap₂ (λ s sees. gate (at kind v) (map (at s) sees)) e c.gate.ensures.sees)
          ∙ sym (evaluated_more kind g.node.now g.first.now g.list.now a.base a.sig.now l.node-index),
    )

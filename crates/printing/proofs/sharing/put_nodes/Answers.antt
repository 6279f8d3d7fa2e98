-- `printing::sharing::put_nodes` meets its contract.
use Rattle.std.proofs.Common.{rules, ap, ap₂, sym, ◌∙◌, arith, ◌≡◌, ◌+◌, ◌*◌, length}
use Rattle.std.proofs.lemmas.List.Edits.{sets}
use Rattle.frame.specs.Frame.{line_of, placed}
use Rattle.netlist.specs.Write.{joined}
use Rattle.netlist.proofs.Written.{length_joined, put_more}
use Rattle.printing.specs.Shared.{rail_line}
use Rattle.printing.proofs.Shared.{rail_length}
use Rattle.printing.proofs.sharing.put_nodes.Goals as goal

pub loop-v-init : goal.loop-v-init
unfolding joined
loop-v-init c = search rules

pub loop-v-preserved : goal.loop-v-preserved
loop-v-preserved c =
    let here = c.loop-v in
    let a = c.args in
    let f = rail_line a.table.now in
    let long = length_joined f 15 (rail_length a.table.now) in
    c.put_line.ensures
    ∙ ap₂ (λ l bytes. placed l (11 + 15 * here.v) (line_of bytes)) here.invariant c.rail_bytes-line.ensures
    ∙ ap (λ k. placed (sets a.out.now 11 (joined f here.v)) (11 + k) (f here.v)) (sym (long here.v))
    ∙ put_more f a.out.now 11 here.v (omega (arith, long (here.v + 1)))

pub returns : goal.returns
returns c =
    let e : c.loop-v.v ≡ length c.args.table.now = omega arith in
    c.loop-v.invariant ∙ ap (λ n. sets c.args.out.now 11 (joined (rail_line c.args.table.now) n)) e

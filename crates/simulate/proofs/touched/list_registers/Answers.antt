-- `simulate::touched::list_registers` meets its contract: the edges are picked by whether they have a register.
use Rattle.std.proofs.Common.{◌≡◌, cond, eqb, Some, None, rules, tests, ◌∙◌}
use Rattle.graph.specs.Columns.{at}
use Rattle.simulate.specs.inner.Lists.{marked}
use Rattle.simulate.proofs.Listed.{keyed, listed_picks, marked_item}
use Rattle.simulate.proofs.touched.list_registers.Goals as goal

pub returns : goal.returns
returns c =
    let count = c.args.circuit.net.now.count in
    listed_picks (marked count) 1 (c.picked.ensures (keyed (marked count) 1) (λ e o l q. (let h : o ≡ cond (eqb (at count e) 0) None (Some e) = search (rules, tests) in h) ∙ marked_item count e))

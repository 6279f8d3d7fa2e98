-- `simulate::plan::gates_of` meets its contract: the nodes of the order are picked where they are no inputs.
use Rattle.std.proofs.Common.{rules, tests}
use Rattle.simulate.proofs.Plans.{worked, filtered_picks}
use Rattle.simulate.proofs.plan.gates_of.Goals as goal

pub returns : goal.returns
returns c =
    let kind = c.args.circuit.net.now.kind in
    let order = c.args.order.now in
    filtered_picks kind order (c.picked.ensures (worked kind order) (λ i o l q. search (rules, tests)))

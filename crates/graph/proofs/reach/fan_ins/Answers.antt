-- `graph::reach::fan_ins` meets its contract: the edges that enter a node are counted.
use Rattle.std.proofs.Common.{length, ap, ◌∙◌, arith}
use Rattle.std.proofs.lemmas.List.{length-take-le}
use Rattle.graph.proofs.Answers.{same_at}
use Rattle.graph.proofs.Sorted.{group_cut}
use Rattle.graph.proofs.reach.fan_ins.Goals as goal

pub count_keys-requires : goal.count_keys-requires
count_keys-requires c =
    let w = c.args.wires in
    (omega (arith, length-take-le w.edges w.to.now w.laid.to_rows, w.laid.edges_fit), same_at 512 0 (omega arith))

pub returns : goal.returns
returns c = λ kind v h.
    let w = c.args.wires in
    c.count_keys.ensures v (omega (arith, w.laid.nodes_fit)) ∙ ap length (group_cut w.to.now w.edges w.laid.to_rows v)

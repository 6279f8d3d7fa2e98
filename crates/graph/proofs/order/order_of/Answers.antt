-- `graph::order::order_of` meets its contract: all nodes of the order are taken (`going_found`).
use Rattle.std.proofs.Common.{subst, arith}
use Rattle.graph.specs.inner.Order.{Found}
use Rattle.graph.proofs.Evaluation.{going_found}
use Rattle.graph.proofs.order.order_of.Goals as goal

pub returns : goal.returns
returns c =
    let both = c.new-both in
    let p = c.take_all.new.self in
    subst (λ w. Found w c.args.count.now p) both.ensures.wires
    (subst (λ n. Found both.result.wires n p) both.ensures.count (going_found c.take_all.ensures (omega arith)))

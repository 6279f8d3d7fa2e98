-- `lags::order::order_under` meets its contract: an evaluation order, where an edge counts as one without a register where it is empty under the labels.
use Rattle.lags.proofs.Orders.{held_loop}
use Rattle.lags.proofs.order.order_under.Goals as goal

pub order_by-requires-clause-no_loop : goal.order_by-requires-clause-no_loop
order_by-requires-clause-no_loop c = held_loop c.args.net.now c.args.lab.now _ c.registers_under.ensures c.requires.0.no_loop

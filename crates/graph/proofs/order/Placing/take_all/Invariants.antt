-- `graph::order::Placing::take_all` meets its contract: the first i nodes of the order are taken. There are no more than 512.
use Rattle.std.proofs.Common.{◌-◌}
use Rattle.graph.specs.inner.Order.{Going}
use Rattle.graph.proofs.order.Placing.take_all.Given as goal

abbrev pub invariant-loop-i : goal.invariant-loop-i
invariant-loop-i l = Going l.both l.self l.i

abbrev pub decreases-loop-i : goal.decreases-loop-i
decreases-loop-i l = 512 - l.i

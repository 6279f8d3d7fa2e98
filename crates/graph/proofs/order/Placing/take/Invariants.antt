-- `graph::order::Placing::take` meets its contract: the edges that leave u at the places below e's are passed.
use Rattle.graph.specs.inner.Order.{Taken}
use Rattle.graph.proofs.order.Placing.take.Given as goal

abbrev pub invariant-loop-e : goal.invariant-loop-e
invariant-loop-e l = Taken l.both l.out l.initial.self l.u l.self l.e-index

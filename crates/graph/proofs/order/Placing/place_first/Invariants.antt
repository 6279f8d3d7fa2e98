-- `graph::order::Placing::place_first` meets its contract: the nodes below v are tried.
use Rattle.graph.specs.inner.Order.{Stage, Waiting}
use Rattle.graph.proofs.order.Placing.place_first.Given as goal

abbrev pub invariant-loop-v : goal.invariant-loop-v
invariant-loop-v l = Stage l.both l.self × Waiting l.both l.self l.v

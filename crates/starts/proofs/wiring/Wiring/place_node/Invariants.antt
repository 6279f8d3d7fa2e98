-- `starts::wiring::Wiring::place_node` meets its contract: the places below k are done.
use Rattle.graph.specs.Columns.{at}
use Rattle.starts.specs.inner.Ring.{Puts}
use Rattle.starts.proofs.wiring.Wiring.place_node.Given as goal

abbrev pub invariant-loop-k : goal.invariant-loop-k
invariant-loop-k l = let net = l.self.net.now in Puts l.self.ins.list net l.s (at l.self.ins.begin l.v) l.k l.initial.slots l.slots

-- `starts::wiring::Wiring::place` meets its contract: the edges that enter the nodes passed have their slots.
use Rattle.starts.specs.inner.Wired.{ListSlots}
use Rattle.starts.proofs.wiring.Wiring.place.Given as goal

abbrev pub invariant-loop-v : goal.invariant-loop-v
invariant-loop-v l = ListSlots l.self l.list l.v-index l.s l.slots

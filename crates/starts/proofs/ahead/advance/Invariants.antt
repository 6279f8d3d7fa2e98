-- `starts::ahead::advance` meets its contract: the slots before this one are a row further.
use Rattle.graph.specs.Columns.{at}
use Rattle.moves.specs.inner.Columns.{Filled}
use Rattle.starts.specs.inner.Ring.{further}
use Rattle.starts.proofs.ahead.advance.Given as goal

abbrev pub invariant-loop-slot : goal.invariant-loop-slot
invariant-loop-slot l = Filled (λ j. further (at l.initial.slots j)) (at l.initial.slots) l.slot-index l.slots

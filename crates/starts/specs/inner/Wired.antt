-- The slots of a netlist whose edges are sorted by the node that they enter.
--   NodeSlots           those of the edges that enter one node are put, and nothing else is
--   ListSlots           they are right for the edges that enter the first n nodes of a list
use Rattle.std.specs.Prelude.{List, ℕ, suc}
use Rattle.graph.specs.Columns.{at}
use Rattle.starts.specs.declared.wiring.Wiring.{Wiring}
use Rattle.starts.specs.inner.Ring.{Puts, SlotsOf}

abbrev pub NodeSlots : Wiring → ℕ → ℕ → List ℕ → List ℕ → Type 0
NodeSlots w v s old new = Puts w.ins.list w.net.now s (at w.ins.begin v) (at w.ins.begin (suc v)) old new

abbrev pub ListSlots : Wiring → List ℕ → ℕ → ℕ → List ℕ → Type 0
ListSlots w list n s slots = SlotsOf list n w.ins.begin w.ins.list w.net.now s slots

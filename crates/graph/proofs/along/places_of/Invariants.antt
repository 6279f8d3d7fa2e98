-- `graph::along::places_of` meets its contract: the places of the first p nodes.
use Rattle.std.proofs.Common.{◌≡◌, length}
use Rattle.graph.specs.inner.Sort.{Places}
use Rattle.graph.proofs.along.places_of.Given as goal

abbrev pub invariant-loop-p : goal.invariant-loop-p
invariant-loop-p l = (length l.place ≡ 512) × Places l.list l.p l.place

-- `gates::table::IndexTable::new` meets its contract: the words passed are looked up.
use Rattle.std.proofs.Common.{◌≡◌, ℕ, ◌<◌, length}
use Rattle.graph.specs.Columns.{at}
use Rattle.gates.specs.inner.Gates.{picked}
use Rattle.gates.proofs.table.IndexTable.new.Given as goal

abbrev pub invariant-loop-word : goal.invariant-loop-word
invariant-loop-word l = (length l.place-items ≡ 264) × ((k : ℕ) → k < l.word → at l.place-items k ≡ picked k)

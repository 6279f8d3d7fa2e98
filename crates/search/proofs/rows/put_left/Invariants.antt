-- `search::rows::put_left` meets its contract: the places before d say what is left of the row.
use Rattle.std.proofs.Common.{◌≡◌, ℕ, ◌+◌, ◌<◌}
use Rattle.graph.specs.Columns.{at}
use Rattle.search.proofs.rows.put_left.Given as goal

abbrev pub invariant-loop-d : goal.invariant-loop-d
invariant-loop-d l = (j : ℕ) → j < l.d → j + at l.left j ≡ l.end

-- `graph::columns::column` meets its contract: the places below i are made, the others are empty.
use Rattle.std.proofs.Common.{◌≡◌, ◌≤◌, ℕ, ◌<◌, get_or}
use Rattle.graph.proofs.columns.column.Given as goal

abbrev pub invariant-loop-i : goal.invariant-loop-i
invariant-loop-i g l =
    ((k : ℕ) → k < l.i → goal.F-post g l.of k (get_or l.out k l.fn.empty))
    × ((k : ℕ) → l.i ≤ k → get_or l.out k l.fn.empty ≡ l.fn.empty)

-- `graph::items::Items::picked` meets its contract: what the numbers below i give is listed.
use Rattle.std.proofs.Common.{◌≡◌, ◌≤◌, ℕ, ◌<◌, length, Option}
use Rattle.graph.specs.inner.Picks.{picks}
use Rattle.graph.proofs.items.Items.picked.Given as goal

abbrev pub invariant-loop-i : goal.invariant-loop-i
invariant-loop-i g l = (length l.list ≤ l.i) × ((item : ℕ → Option ℕ) → ((i : ℕ) (o : Option ℕ) → i < l.n → goal.F-post g l.pick i o → o ≡ item i) → l.list ≡ picks item l.i)

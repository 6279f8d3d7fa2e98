-- What loops leave in lists.
--   Appended            f of each number from lo up to hi, put from `start` on
--   Filtered, FilteredAt    the first n members of a list that have a property, in their order in the first places of another; one of them
--   Once                the first n of a list are all different
--   Listed              they are different nodes, and marks say which
use Rattle.std.specs.Prelude.{◌≡◌, Bool, true, List, ℕ, ◌+◌, ◌<◌, ◌≤◌, length}
use Rattle.graph.specs.Columns.{at, flag}
use Rattle.graph.specs.inner.Sort.{Stands}

pub record Appended (f : ℕ → ℕ) (old new : List ℕ) (lo hi start : ℕ) : Type 0 where
  pub rows : length new ≡ length old
  pub kept : (j : ℕ) → j < start → at new j ≡ at old j
  pub added : (k : ℕ) → lo + k < hi → at new (start + k) ≡ f (lo + k)

-- All before it that have the property stand before it in the other list too.
pub record FilteredAt (P : ℕ → Type 0) (old : List ℕ) (n : ℕ) (new : List ℕ) (i : ℕ) : Type 0 where
  pub place : ℕ
  pub within : place < n
  pub same : at old place ≡ at new i
  pub has : P (at new i)
  pub before : (q : ℕ) → q < place → P (at old q) → Stands new i (at old q)

pub record Filtered (P : ℕ → Type 0) (old : List ℕ) (n : ℕ) (new : List ℕ) (r : ℕ) : Type 0 where
  pub few : r ≤ n
  pub each : (i : ℕ) → i < r → FilteredAt P old n new i
  pub every : (p : ℕ) → p < n → P (at old p) → Stands new r (at old p)

-- ── Without repeats ─────────────────────────────────────────────────────────────────────────

abbrev pub Once : List ℕ → ℕ → Type 0
Once xs n = (p q : ℕ) → p < q → q < n → ¬ (at xs p ≡ at xs q)

pub record Listed (nodes n : ℕ) (list : List ℕ) (mark : List Bool) : Type 0 where
  pub nodes_only : (p : ℕ) → p < n → at list p < nodes
  pub once : Once list n
  pub marked : (p : ℕ) → p < n → flag mark (at list p) ≡ true
  pub stands : (v : ℕ) → v < nodes → flag mark v ≡ true → Stands list n v

-- What is due, put in rows: a row is what is due of one edge at one level, a moved clock each. Rows of lower levels come first.
--   Level               l is the level of cell i, which is among the cells of that level
--   of_level level m l  the dues of l that ask cells of level m, in their order
--   RowsEnd left a b    at each place from a up to b something is left of a row, and the row ends by b
--   Rows                rows of lower levels come first, those below level m before rows(m), and every row ends within the dues
--   SameDues            the first places of the row hold what is due, and all of it
use Rattle.std.specs.Prelude.{cond, List, [], ◌∷◌, ℕ, suc, ◌+◌, ◌/◌, ◌<◌, ◌≤◌, eqb}
use Rattle.graph.specs.Columns.{at}
use Rattle.graph.specs.inner.Sort.{Stands}

pub record Level (levels : List ℕ) (many i l : ℕ) : Type 0 where
  pub from : at levels l ≤ i
  pub below : i < at levels (suc l)
  pub few : l < many

unfoldable pub of_level : List ℕ → ℕ → List ℕ → List ℕ
of_level level m [] = []
of_level level m (y ∷ l) = cond (eqb (at level (y / 2)) m) (y ∷ of_level level m l) (of_level level m l)

abbrev pub RowsEnd : List ℕ → ℕ → ℕ → Type 0
RowsEnd left a b = (d : ℕ) → a ≤ d → d < b → (1 ≤ at left d) × (d + at left d ≤ b)

pub record Rows (many : ℕ) (level row left rows : List ℕ) : Type 0 where
  pub low : (m d : ℕ) → m ≤ many → d < at rows m → at level (at row d / 2) < m
  pub ends : RowsEnd left 0 (at rows many)
  pub most : (m : ℕ) → m ≤ many → at rows m ≤ at rows many

pub record SameDues (due : List ℕ) (total : ℕ) (row : List ℕ) (dues : ℕ) : Type 0 where
  pub few : dues ≤ total
  pub sound : (d : ℕ) → d < dues → Stands due total (at row d)
  pub complete : (x : ℕ) → x < total → Stands row dues (at due x)

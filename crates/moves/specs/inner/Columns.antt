-- Columns of the moved netlist on the way.
--   Filled, none        the first n rows of a column are f's, the others as they were; 0 in every row
use Rattle.std.specs.Prelude.{◌≡◌, List, ℕ, ◌<◌, ◌≤◌}
use Rattle.graph.specs.Columns.{at}

pub record Filled (f rest : ℕ → ℕ) (n : ℕ) (xs : List ℕ) : Type 0 where
  pub rows : (e : ℕ) → e < n → at xs e ≡ f e
  pub past : (e : ℕ) → n ≤ e → at xs e ≡ rest e

abbrev pub none : ℕ → ℕ
none e = 0

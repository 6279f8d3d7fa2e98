-- Small things that arrival times tell of.
--   Above               one of the first n is above p
--   one_if, mark_of     1 for the kind that is asked for, else 0
use Rattle.std.specs.Prelude.{Bool, true, false, List, ℕ, ◌<◌, eqb}
use Rattle.graph.specs.Columns.{at}

pub record Above (xs : List ℕ) (n p : ℕ) : Type 0 where
  pub node : ℕ
  pub within : node < n
  pub above : p < at xs node

abbrev pub one_if : Bool → ℕ
one_if true = 1
one_if false = 0

abbrev pub mark_of : ℕ → ℕ → ℕ
mark_of kind pin = one_if (eqb kind pin)

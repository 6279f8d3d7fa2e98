-- Lists that are picked from the numbers below a bound.
--   onto list o         the list, with one item more where there is one
--   picks item n        what 0, 1, … below n give, in this order, as far as they give something
use Rattle.std.specs.Prelude.{List, [], ◌∷◌, ◌++◌, ℕ, zero, suc, Option, Some, None}

abbrev pub onto : List ℕ → Option ℕ → List ℕ
onto list None = list
onto list (Some x) = list ++ x ∷ []

unfoldable pub picks : (ℕ → Option ℕ) → ℕ → List ℕ
picks item zero = []
picks item (suc n) = onto (picks item n) (item n)

-- The order of refusals. "Each is given when its fact holds and no earlier one does": facts in a row, of which the first that holds decides.
--   F or_else G         F decides where it holds of any answer; else G does
--   Given P x           the fact P, of which x is said
--   GivenAt P x         the fact P of a place, of which x at that place is said
--   Stops s             an earlier answer was the refusal s, and it stands
--   Otherwise x         no fact is left: x is said
--   Needs n m           12, or n: so many things are to be written into room for m
use Rattle.std.specs.Prelude.{◌≡◌, ℕ, ◌<◌}
use Rattle.netlist.specs.Answer.{Said, value, refused, whole}

infixr 1 ◌or_else◌
pub data ◌or_else◌ (F G : Said → Type 0) (s : Said) : Type 0 where
  here : F s → (F or_else G) s
  past : ((x : Said) → ¬ F x) → G s → (F or_else G) s

abbrev pub Given : Type 0 → Said → Said → Type 0
Given P x s = P × (s ≡ x)

abbrev pub GivenAt : (ℕ → Type 0) → (ℕ → Said) → Said → Type 0
GivenAt P x s = (n : ℕ) × P n × (s ≡ x n)

abbrev pub Otherwise : Said → Said → Type 0
Otherwise x s = s ≡ x

abbrev pub Stops : Said → Said → Type 0
Stops (value n) s = ⊥
Stops (refused q k p) s = s ≡ refused q k p

-- "12 (whole): a lent buffer shorter than what is to be written." "A call that writes bytes and names no other answer gives how many it wrote."
abbrev pub Needs : ℕ → ℕ → Said → Type 0
Needs n m = Given (m < n) (whole 12) or_else Otherwise (value n)

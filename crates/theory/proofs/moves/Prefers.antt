-- The order of preference. Retiming uses `prefers_one` and `prefers_well` of it and, outside the search, no more, so another order needs them.
--   prefers_one         of two different numbers one is preferred
--   prefers_below       a number that is preferred to one of few bits has no more bits: of this order alone, so that numbers of more bits need not be looked at
--   prefers_well        of the numbers below n with a property there is one to which none of them is preferred, or none has it
--   prefers?, prefers_test     a test, which the cards compute
use Prim.Native.Nat.{ℕ, ◌<◌}
use native.Mathlib.Omega.{arith}
use native.Mathlib.Decide.{dec_lt}
use mathlib.Core.Path.{◌≡◌}
use mathlib.Core.Bool.{Bool}
use mathlib.Core.Logic.{◌⊎◌, inl, inr, ⊎_elim}
use lib.Dec.{T, ltb, lt→ltb}
use Rattle.theory.specs.Move.{Prefers}
use Rattle.theory.proofs.numbers.Find.{first}

pub prefers_one : (c d : ℕ) → ¬ (c ≡ d) → Prefers c d ⊎ Prefers d c
unfolding Prefers
prefers_one c d n = go (dec_lt c d)
  where
    go : Dec (c < d) → (c < d) ⊎ (d < c)
    go (yes h) = inl h
    go (no h) = inr (omega arith)

pub prefers_below : {d c n : ℕ} → Prefers d c → c < n → d < n
unfolding Prefers
prefers_below p h = omega (arith, p, h)

pub prefers_well : {A : ℕ → Type 0} (n : ℕ) → ((c : ℕ) → c < n → Dec (A c))
    → ((c : ℕ) × (c < n) × A c × ((d : ℕ) → d < n → Prefers d c → ¬ (A d))) ⊎ ((c : ℕ) → c < n → ¬ (A c))
unfolding Prefers
prefers_well n has = ⊎_elim (λ t. inl (t.0, t.1, t.2, λ d h p. t.3 d p)) inr (first n has)

abbrev pub prefers? : ℕ → ℕ → Bool
prefers? d c = ltb d c

pub prefers_test : (d c : ℕ) → Prefers d c → T (prefers? d c)
unfolding Prefers
prefers_test d c p = lt→ltb d c p

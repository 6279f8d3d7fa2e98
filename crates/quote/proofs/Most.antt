-- The largest of some numbers.
--   most_more           of one more
--   most_same           it depends on the numbers
--   most_holds          none of them is above it
--   most_within         it is not above what none of them is above
--   most_first          where it is above k, some number is, and so there is a first one
use Prim.Native.Nat.{ℕ, zero, suc, ◌+◌, max, ◌<◌, ◌≤◌}
use native.Mathlib.Nat.{eq-or-lt_of_le}
use native.Mathlib.Numerals.{add-one}
use native.Mathlib.Decide.{dec_lt}
use native.Mathlib.Omega.{arith}
use mathlib.Core.Path.{◌≡◌, refl, ap, ap₂}
use mathlib.Core.Logic.{⊎_elim}
use Rattle.theory.proofs.numbers.Find.{first}
use Rattle.quote.specs.Quote.{most}

pub most_more : (f : ℕ → ℕ) (n : ℕ) → most f (n + 1) ≡ max (most f n) (f n)
unfolding most
most_more f n = rw add-one

pub most_same : (f g : ℕ → ℕ) (n : ℕ) → ((i : ℕ) → i < n → f i ≡ g i) → most f n ≡ most g n
unfolding most
most_same f g zero h = refl
most_same f g (suc n) h = ap₂ max (most_same f g n (λ i l. h i (omega arith))) (h n (omega arith))

pub most_holds : (f : ℕ → ℕ) (n i : ℕ) → i < n → f i ≤ most f n
unfolding most
most_holds f zero i h = absurd (let z : ⊥ = omega arith in z)
most_holds f (suc n) i h =
    ⊎_elim
    (λ (q : suc i ≡ suc n). let s : i ≡ n = omega arith in omega (arith, ap f s))
    (λ (q : suc i < suc n). omega (arith, most_holds f n i (omega arith)))
    (eq-or-lt_of_le h)

pub most_within : (f : ℕ → ℕ) (n k : ℕ) → ((i : ℕ) → i < n → f i ≤ k) → most f n ≤ k
unfolding most
most_within f zero k h = omega arith
most_within f (suc n) k h = omega (arith, most_within f n k (λ i l. h i (omega arith)), h n (omega arith))

pub most_first : (f : ℕ → ℕ) (n k : ℕ) → k < most f n → (e : ℕ) × (e < n) × (k < f e) × ((i : ℕ) → i < e → f i ≤ k)
most_first f n k above =
    ⊎_elim
    (λ (e, h, w, none). (e, h, w, λ i l. let z = none i l in omega arith))
    (λ none. absurd (let z : ⊥ = omega (arith, most_within f n k (λ i l. let z = none i l in omega arith)) in z))
    (first n (λ i h. dec_lt k (f i)))

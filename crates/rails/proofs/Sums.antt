-- Sums over edges and nodes.
--   sum_few             n parts of b at most
--   sum_ones, sum_all   a part is 1 or 0: at most as many as there are; all of them, where each is 1
--   sum_past            parts from m on
--   sum_add, sum_at, sum_swap    parts at their places: over the places, they are all of them
use Prim.Native.Nat.{ℕ, zero, suc, ◌+◌, ◌-◌, ◌*◌, ◌<◌, ◌≤◌}
use native.Mathlib.Omega.{arith}
use native.Mathlib.Decide.{ℕ_discrete, dec_lt}
use mathlib.Core.Path.{◌≡◌, refl, ap₂, ◌∙◌}
use mathlib.Core.Bool.{Bool, true, false, cond}
use lib.Dec.{eqb, ltb}
use borrow.Author.Tests.{eq-eqb, ne_eqb}
use Rattle.std.proofs.lemmas.Bool.{lt-ltb, le-ltb}
use Rattle.theory.specs.Move.{sum}
use Rattle.theory.proofs.numbers.Sums.{sum_zero}

pub sum_few : (f : ℕ → ℕ) (b n : ℕ) → ((i : ℕ) → i < n → f i ≤ b) → sum f n ≤ b * n
unfolding sum
sum_few f b zero h = omega arith
sum_few f b (suc n) h = omega (arith, sum_few f b n (λ i l. h i (omega arith)), h n (omega arith))

module _ (t : ℕ → Bool) where
  pub sum_ones : (n : ℕ) → sum (λ i. cond (t i) 0 1) n ≤ n
  unfolding sum
  sum_ones zero = omega arith
  sum_ones (suc n) = omega (arith, sum_ones n, low (t n))
    where
      low : (b : Bool) → cond b 0 1 ≤ 1
      low true = omega arith
      low false = omega arith

  pub sum_all : (n : ℕ) → ((i : ℕ) → i < n → t i ≡ false) → sum (λ i. cond (t i) 0 1) n ≡ n
  unfolding sum
  sum_all zero h = refl
  sum_all (suc n) h = let e = h n (omega arith) in rw e (omega (arith, sum_all n (λ i l. h i (omega arith))))

pub sum_past : (m n : ℕ) → sum (λ i. cond (ltb i m) 0 1) n ≡ n - m
unfolding sum
sum_past m zero = omega arith
sum_past m (suc n) = go (dec_lt n m) (sum_past m n)
  where
    go : Dec (n < m) → sum (λ i. cond (ltb i m) 0 1) n ≡ n - m → sum (λ i. cond (ltb i m) 0 1) n + cond (ltb n m) 0 1 ≡ suc n - m
    go (yes h) e = rw (lt-ltb n m h) (omega arith)
    go (no h) e = rw (le-ltb n m (omega arith)) (omega arith)

-- ── Parts at their places ───────────────────────────────────────────────────────────────────

pub sum_add : (f g : ℕ → ℕ) (n : ℕ) → sum (λ i. f i + g i) n ≡ sum f n + sum g n
unfolding sum
sum_add f g zero = refl
sum_add f g (suc n) = omega (arith, sum_add f g n)

pub sum_at : (a x n : ℕ) → a < n → sum (λ u. cond (eqb a u) x 0) n ≡ x
unfolding sum
sum_at a x zero h = absurd (omega arith)
sum_at a x (suc n) h = go (ℕ_discrete a n) (λ l. sum_at a x n l)
  where
    go : Dec (a ≡ n) → (a < n → sum (λ u. cond (eqb a u) x 0) n ≡ x) → sum (λ u. cond (eqb a u) x 0) n + cond (eqb a n) x 0 ≡ x
    go (yes e) w =
        let none = sum_zero (λ u. cond (eqb a u) x 0) n (λ u l. let z : ¬ (a ≡ u) = λ y. omega arith in rw (ne_eqb a u z)) in
        rw (eq-eqb a n e) (omega arith)
    go (no e) w = rw (ne_eqb a n e) (omega (arith, w (omega arith)))

pub sum_swap : (place f : ℕ → ℕ) (n m : ℕ) → ((e : ℕ) → e < m → place e < n) → sum (λ u. sum (λ e. cond (eqb (place e) u) (f e) 0) m) n ≡ sum f m
unfolding sum
sum_swap place f n zero h = sum_zero (λ u. 0) n (λ u l. refl)
sum_swap place f n (suc m) h =
    sum_add (λ u. sum (λ e. cond (eqb (place e) u) (f e) 0) m) (λ u. cond (eqb (place m) u) (f m) 0) n
    ∙ ap₂ ◌+◌ (sum_swap place f n m (λ e l. h e (omega arith))) (sum_at (place m) (f m) n (h m (omega arith)))

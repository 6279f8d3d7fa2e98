-- Working delays: the nearest whole number, the even one of two.
--   whole_part          a hundredth of a sum
--   rounded_sum         rounding by one sum: 49 before a half that goes down, 50 before one that goes up
--   rounded_whole       whole hundreds
use Rattle.std.proofs.Common.{◌≡◌, ℕ, ◌+◌, ◌*◌, ◌/◌, ◌%◌, ◌<◌, ◌≤◌, refl, ap, ◌∙◌, arith}
use native.Mathlib.Decide.{dec_le}
use borrow.Author.Tests.{lt-ltb, le-ltb, eq-eqb, ne_eqb}
use Rattle.netlist.specs.Net.{rounded, working}
use Rattle.netlist.specs.Theorems.{NearestEven, HalfCards}

module _ (x : ℕ) where
  above : 50 < x % 100 → rounded x ≡ x / 100 + 1
  unfolding rounded
  above h = let a = lt-ltb 50 (x % 100) h in rw a

  half : x % 100 ≡ 50 → rounded x ≡ x / 100 + x / 100 % 2
  unfolding rounded
  half h = let a = le-ltb 50 (x % 100) (omega arith) in let b = eq-eqb (x % 100) 50 h in rw (a, b)

  below : x % 100 < 50 → rounded x ≡ x / 100
  unfolding rounded
  below h = let a = le-ltb 50 (x % 100) (omega arith) in let b = ne_eqb (x % 100) 50 (λ e. omega arith) in rw (a, b)

even : (q : ℕ) → (q + q % 2) % 2 ≡ 0
even q = omega arith

pub nearest_even : NearestEven
nearest_even x = go (dec_le (x % 100) 49) (dec_le 51 (x % 100))
  where
    go : Dec (x % 100 ≤ 49) → Dec (51 ≤ x % 100) → (100 * rounded x ≤ x + 50) × (x ≤ 100 * rounded x + 50) × (x % 100 ≡ 50 → rounded x % 2 ≡ 0)
    go (yes h) d = let e = below x (omega arith) in (omega arith, omega arith, λ k. absurd (let z : ⊥ = omega arith in z))
    go (no h) (yes k) = let e = above x (omega arith) in (omega arith, omega arith, λ m. absurd (let z : ⊥ = omega arith in z))
    go (no h) (no k) = let e = half x (omega arith) in (omega arith, omega arith, λ m. ap (λ r. r % 2) e ∙ even (x / 100))

pub half_cards : HalfCards
unfolding working rounded
half_cards = (refl, refl, refl, refl, refl)

pub rounded_sum : (x : ℕ) → rounded x ≡ (x + 49 + x / 100 % 2) / 100
rounded_sum x = go (dec_le (x % 100) 49) (dec_le 51 (x % 100))
  where
    go : Dec (x % 100 ≤ 49) → Dec (51 ≤ x % 100) → rounded x ≡ (x + 49 + x / 100 % 2) / 100
    go (yes h) d = let e = below x (omega arith) in omega arith
    go (no h) (yes k) = let e = above x (omega arith) in omega arith
    go (no h) (no k) = let e = half x (omega arith) in omega arith

pub rounded_whole : (d : ℕ) → rounded (d * 100) ≡ d
rounded_whole d = below (d * 100) (omega arith) ∙ omega arith

-- A bit put on top of a word: over the place, whatever it is. Bit k of a word is word / 2 ^ k % 2.
--   bit_below           it leaves the bits below it
--   bit_top             it is the bit there
--   bit_fits            and the word has no bit above it
use Prim.Native.Nat.{ℕ, suc, ◌+◌, ◌*◌, ◌^◌, ◌/◌, ◌%◌, ◌<◌, ◌≤◌}
use native.Mathlib.Omega.{arith}
use native.Mathlib.Nat.{pow-suc, mul_assoc, add_comm, add-mul-div_right, add-mul-mod_self_right, mod-eq_of_lt}
use mathlib.Core.Path.{◌≡◌, sym, ap, ◌∙◌}
use lib.Arith.{digits_lt}
use lib.Pow.{pow_pos, pow-add, high}

-- The bit was put d + 1 bits above bit k: an even number of times 2 ^ k.
pub bit_below : (word x d k : ℕ) → (word + x * 2 ^ (suc d + k)) / 2 ^ k % 2 ≡ word / 2 ^ k % 2
bit_below word x d k =
    ap (λ y. (word + x * y) / 2 ^ k % 2) (pow-add 2 (suc d) k) ∙ ap (λ y. (word + y) / 2 ^ k % 2) (sym (mul_assoc x (2 ^ suc d) (2 ^ k)))
    ∙ ap (λ y. y % 2) (add-mul-div_right word (x * 2 ^ suc d) (pow_pos k))
    ∙ ap (λ y. (word / 2 ^ k + x * y) % 2) (pow-suc 2 d) ∙ ap (λ y. (word / 2 ^ k + y) % 2) (sym (mul_assoc x (2 ^ d) 2))
    ∙ add-mul-mod_self_right (word / 2 ^ k) (x * 2 ^ d) 2

module _ (word x k : ℕ) (h : word < 2 ^ k) (l : x ≤ 1) where
  pub bit_top : (word + x * 2 ^ k) / 2 ^ k % 2 ≡ x
  bit_top = ap (λ y. y / 2 ^ k % 2) (add_comm word (x * 2 ^ k)) ∙ ap (λ y. y % 2) (high x k h) ∙ mod-eq_of_lt (omega arith)

  pub bit_fits : word + x * 2 ^ k < 2 ^ suc k
  bit_fits = let d : x * 2 ^ k + word < 2 * 2 ^ k = digits_lt (omega arith) h in omega (arith, pow-suc 2 k)

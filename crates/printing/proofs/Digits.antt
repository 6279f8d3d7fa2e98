-- Bits written as digits.
--   digits_more, digits_end    one more, and the line feed behind the last
--   length_digits       how long the line is
use Prim.Native.Nat.{ℕ, ◌+◌, ◌<◌}
use native.Mathlib.Omega.{arith}
use native.Mathlib.Numerals.{add-one}
use mathlib.Core.Path.{◌≡◌, refl, sym, ap, ◌∙◌}
use mathlib.Core.List.{List, [], ◌∷◌, ◌++◌, map}
use lib.ListN.{length, take, set, get_or, length-append, length-map}
use lib.Seq.{sets, take-suc, length-take-le}
use Rattle.theory.proofs.numbers.Stores.{sets_sets}
use Rattle.printing.specs.Printed.{bit_digit, digit_line}

map-append : (xs ys : List ℕ) → map bit_digit (xs ++ ys) ≡ map bit_digit xs ++ map bit_digit ys
map-append [] ys = refl
map-append (x ∷ xs) ys = ap (λ l. bit_digit x ∷ l) (map-append xs ys)

pub length_digits : (bits : List ℕ) → length (digit_line bits) ≡ length bits + 1
unfolding digit_line
length_digits bits = length-append (map bit_digit bits) (10 ∷ []) ∙ omega (arith, length-map bits bit_digit)

module _ (bits old : List ℕ) where
  pub digits_more : (i : ℕ) → i < length bits → set (sets old 0 (map bit_digit (take i bits))) i (bit_digit (get_or bits i 0)) ≡ sets old 0 (map bit_digit (take (i + 1) bits))
  digits_more i h =
      let long = length-map (take i bits) bit_digit ∙ length-take-le i bits (omega arith) in
      sets_sets (map bit_digit (take i bits)) (bit_digit (get_or bits i 0) ∷ []) old 0 i (omega (arith, long))
      ∙ ap (sets old 0) (sym (ap (map bit_digit) (ap (λ n. take n bits) (add-one i) ∙ take-suc bits i 0 h) ∙ map-append (take i bits) (get_or bits i 0 ∷ [])))

  pub digits_end : set (sets old 0 (map bit_digit bits)) (length bits) 10 ≡ sets old 0 (digit_line bits)
  unfolding digit_line
  digits_end = sets_sets (map bit_digit bits) (10 ∷ []) old 0 (length bits) (omega (arith, length-map bits bit_digit))

-- The numbers in a line's bytes, as code takes them out of an array.
--   pair_at, quad_at                       two and four bytes from the i-th on, as the code's numbers
--   number_one, number_two, number_four    the number of so many bytes from the i-th on, by the bytes themselves
use Prim.Native.Nat.{ℕ, suc, ◌+◌, ◌<◌}
use mathlib.Core.Path.{◌≡◌}
use mathlib.Core.List.{List, [], ◌∷◌}
use native.Mathlib.Omega.{arith}
use lib.ListN.{length, get_or}
use lib.Seq.{drop-cons}
use Rattle.std.specs.Int.{w16, w32, from_be_bytes}
use Rattle.frame.specs.Frame.{number, number_at}

abbrev pub pair_at : List ℕ → ℕ → ℕ
pair_at xs i = from_be_bytes w16 (get_or xs i 0 ∷ get_or xs (i + 1) 0 ∷ [])

abbrev pub quad_at : List ℕ → ℕ → ℕ
quad_at xs i = from_be_bytes w32 (get_or xs i 0 ∷ get_or xs (i + 1) 0 ∷ get_or xs (i + 2) 0 ∷ get_or xs (i + 3) 0 ∷ [])

module _ (xs : List ℕ) (i : ℕ) where
  pub number_one : i < length xs → number_at i 1 xs ≡ get_or xs i 0
  unfolding number
  number_one h = rw (drop-cons xs i 0 h) (omega arith)

  pub number_two : suc i < length xs → number_at i 2 xs ≡ pair_at xs i
  unfolding number
  number_two h =
      let a : i < length xs = omega arith in
      let p : i + 1 ≡ suc i = omega arith in
      rw (drop-cons xs i 0 a, drop-cons xs (suc i) 0 h, p) (omega arith)

  pub number_four : suc (suc (suc i)) < length xs → number_at i 4 xs ≡ quad_at xs i
  unfolding number
  number_four h =
      let a : i < length xs = omega arith in
      let b : suc i < length xs = omega arith in
      let c : suc (suc i) < length xs = omega arith in
      let p : i + 1 ≡ suc i = omega arith in
      let q : i + 2 ≡ suc (suc i) = omega arith in
      let r : i + 3 ≡ suc (suc (suc i)) = omega arith in
      rw (drop-cons xs i 0 a, drop-cons xs (suc i) 0 b, drop-cons xs (suc (suc i)) 0 c, drop-cons xs (suc (suc (suc i))) 0 h, p, q, r) (omega arith)

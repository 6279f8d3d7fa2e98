-- Words: a word of k bits and its leading zeros.
--   leading_clear       no bit stands at or above the count exactly where enough zeros lead
--   word_clear          the same of a word of 32 bits
use mathlib.Core.Path.{◌≡◌, sym, ◌∙◌}
use Prim.Native.Nat.{ℕ, suc, ◌+◌, ◌-◌, ◌*◌, ◌<◌, ◌≤◌, ◌^◌}
use native.Mathlib.Nat.{lt_of_lt_of_le, lt_of_not-le, pow-suc}
use native.Mathlib.Decide.{dec_le}
use native.Mathlib.Omega.{arith}
use borrow.Author.Tests.{le-leb, lt-leb, lt-ltb, le-ltb}
use lib.Dec.{leb, ltb}
use lib.Count.{count_leading_zeros, leading_length}
use lib.Pow.{pow_mono}

-- a word of k bits has k - count leading zeros or more exactly where it is below 2 ^ count
pub leading_clear : (k a count : ℕ) → a < 2 ^ k → count ≤ k → leb (k - count) (count_leading_zeros k a) ≡ ltb a (2 ^ count)
leading_clear k a count h g = go (leading_length k a h).0 (leading_length k a h).1 (leading_length k a h).2 (leading_length k a h).3 (dec_le (leading_length k a h).0 count)
  where
    -- by whether the length m of a is at most the count
    go : (m : ℕ) → count_leading_zeros k a + m ≡ k → a < 2 ^ m → 2 ^ m ≤ 2 * a + 1 → Dec (m ≤ count) → leb (k - count) (count_leading_zeros k a) ≡ ltb a (2 ^ count)
    go m e lo hi (yes l) = le-leb (k - count) (count_leading_zeros k a) (omega arith) ∙ sym (lt-ltb a (2 ^ count) (lt_of_lt_of_le lo (pow_mono l)))
    go m e lo hi (no n) =
        let l : count < m = lt_of_not-le n in
        let p : 2 ^ suc count ≤ 2 ^ m = pow_mono l in
        let d : 2 ^ suc count ≡ 2 ^ count * 2 = pow-suc 2 count in
        lt-leb (k - count) (count_leading_zeros k a) (omega arith) ∙ sym (le-ltb a (2 ^ count) (omega arith))

-- the same of a word of 32 bits and any count: past 32 no bit stands above it
pub word_clear : (a count : ℕ) → a < 2 ^ 32 → leb (32 - count) (count_leading_zeros 32 a) ≡ ltb a (2 ^ count)
word_clear a count h = go (dec_le count 32)
  where
    go : Dec (count ≤ 32) → leb (32 - count) (count_leading_zeros 32 a) ≡ ltb a (2 ^ count)
    go (yes l) = leading_clear 32 a count h l
    go (no n) =
        let l : 32 ≤ count = omega arith in
        le-leb (32 - count) (count_leading_zeros 32 a) (omega arith) ∙ sym (lt-ltb a (2 ^ count) (lt_of_lt_of_le h (pow_mono l)))

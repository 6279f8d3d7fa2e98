-- Runs that begin alike, as values and as numbers.
--   agreed_each, agreed_by    they agree at each distance
--   beginning           the number of n + 1 values is twice that of n, and the next value
--   same_digits, digits_same    two numbers of n values are equal exactly where the values are
--   near_agreed, near_differ    so the nearest n agree or differ as the numbers do
--   digits, digits_above, digits_below, digits_few    how many digits a number has, by its leading zeros
--   top_same, top_differs       two numbers are equal above the digits of their exclusive or, and no lower
--   apart, same_few     where the nearest m of two words differ; its digits are m at most
--   agreed_within, agreed_past  so for the test in code
use Prim.Native.Nat.{ℕ, zero, suc, ◌+◌, ◌*◌, ◌-◌, ◌^◌, ◌/◌, ◌%◌, ◌<◌, ◌≤◌}
use native.Mathlib.Omega.{arith}
use native.Mathlib.Nat.{div-eq_of_lt, lt_of_lt_of_le}
use native.Mathlib.Decide.{ℕ_discrete, dec_lt}
use mathlib.Core.Path.{◌≡◌, refl, sym, ap, ◌∙◌, subst}
use mathlib.Core.Bool.{true, false}
use borrow.Author.Tests.{eqb-true, eq-eqb}
use lib.Bits.{bit_xor, xor_self, xor_assoc, xor_zero_r}
use lib.Count.{count_leading_zeros}
use lib.Dec.{eqb}
use lib.Pow.{pow_mono}
use Rattle.std.proofs.lemmas.Bool.{false_from_ne_true}
use Rattle.std.proofs.lemmas.Nat.{shr-shr, shr_below, pow_pos, pow-add, le-div, xor_lt, xor_shr, leading_length}
use Rattle.theory.specs.Move.{digit}
use Rattle.netlist.proofs.Fits.{both}
use Rattle.rails.specs.Rails.{agreed}

module _ (f g : ℕ → ℕ) where
  pub agreed_each : (n : ℕ) → agreed f g n ≡ true → (i : ℕ) → i < n → f i ≡ g i
  unfolding agreed
  agreed_each zero h i l = absurd (omega arith)
  agreed_each (suc n) h i l = let b = both (agreed f g n) (eqb (f n) (g n)) h in go b.1 (λ k. agreed_each n b.0 i k) (ℕ_discrete i n)
    where
      go : eqb (f n) (g n) ≡ true → (i < n → f i ≡ g i) → Dec (i ≡ n) → f i ≡ g i
      go b before (yes e) = ap f e ∙ eqb-true (f n) (g n) b ∙ sym (ap g e)
      go b before (no e) = before (omega arith)

  pub agreed_by : (n : ℕ) → ((i : ℕ) → i < n → f i ≡ g i) → agreed f g n ≡ true
  unfolding agreed
  agreed_by zero h = refl
  agreed_by (suc n) h = let a = agreed_by n (λ i l. h i (omega arith)) in let b = eq-eqb (f n) (g n) (h n (omega arith)) in rw (a, b)

-- ── As numbers ──────────────────────────────────────────────────────────────────────────────

pub beginning : (w a n : ℕ) → n < w → a / 2 ^ (w - suc n) / 2 ≡ a / 2 ^ (w - n)
beginning w a n h = shr-shr a (w - suc n) 1 ∙ ap (λ k. a / 2 ^ k) (omega arith)

module _ (w a x b : ℕ) where
  pub same_digits : (n : ℕ) → n ≤ w → n ≤ x → a / 2 ^ (w - n) ≡ b / 2 ^ (x - n) → (i : ℕ) → i < n → digit w a i ≡ digit x b i
  same_digits zero h k e i l = absurd (omega arith)
  same_digits (suc n) h k e i l =
      go (λ j. same_digits n (omega arith) (omega arith) (sym (beginning w a n h) ∙ ap (λ y. y / 2) e ∙ beginning x b n k) i j) (ℕ_discrete i n)
    where
      go : (i < n → digit w a i ≡ digit x b i) → Dec (i ≡ n) → digit w a i ≡ digit x b i
      go before (yes z) = ap (digit w a) z ∙ ap (λ y. y % 2) e ∙ sym (ap (digit x b) z)
      go before (no z) = before (omega arith)

  module _ (p : a < 2 ^ w) (q : b < 2 ^ x) where
    pub digits_same : (n : ℕ) → n ≤ w → n ≤ x → ((i : ℕ) → i < n → digit w a i ≡ digit x b i) → a / 2 ^ (w - n) ≡ b / 2 ^ (x - n)
    digits_same zero h k s =
        ap (λ j. a / 2 ^ j) (let y : w - 0 ≡ w = omega arith in y) ∙ div-eq_of_lt p
        ∙ sym (ap (λ j. b / 2 ^ j) (let y : x - 0 ≡ x = omega arith in y) ∙ div-eq_of_lt q)
    digits_same (suc n) h k s =
        let c = digits_same n (omega arith) (omega arith) (λ i l. s i (omega arith)) in
        omega (arith, beginning w a n h, beginning x b n k, c, s n (omega arith))

    module _ (n : ℕ) (h : n ≤ w) (k : n ≤ x) where
      pub near_agreed : a / 2 ^ (w - n) ≡ b / 2 ^ (x - n) → agreed (digit w a) (digit x b) n ≡ true
      near_agreed e = agreed_by (digit w a) (digit x b) n (same_digits n h k e)

      pub near_differ : ¬ (a / 2 ^ (w - n) ≡ b / 2 ^ (x - n)) → agreed (digit w a) (digit x b) n ≡ false
      near_differ e = false_from_ne_true (agreed (digit w a) (digit x b) n) (λ t. e (digits_same n h k (agreed_each (digit w a) (digit x b) n t)))

-- ── By the leading zeros of an exclusive or ─────────────────────────────────────────────────

same_by_xor : (a b : ℕ) → bit_xor a b ≡ 0 → a ≡ b
same_by_xor a b e = sym (xor_zero_r a) ∙ ap (bit_xor a) (sym (xor_self b)) ∙ sym (xor_assoc a b b) ∙ ap (λ z. bit_xor z b) e

-- How many digits a number below 2 ^ 32 has.
abbrev pub digits : ℕ → ℕ
digits z = 32 - count_leading_zeros 32 z

module _ (z : ℕ) (h : z < 2 ^ 32) where
  digits_above : (j : ℕ) → digits z ≤ j → z < 2 ^ j
  digits_above j l = let m = leading_length 32 z h in lt_of_lt_of_le m.2 (pow_mono (omega (arith, m.1, l)))

  digits_below : (j : ℕ) → j < digits z → 2 ^ j ≤ z
  digits_below j l =
      let m = leading_length 32 z h in
      let w : 2 ^ (j + 1) ≤ 2 ^ m.0 = pow_mono (omega (arith, m.1, l)) in
      omega (arith, w, pow-add 2 j 1, m.3)

  digits_few : (k : ℕ) → z < 2 ^ k → digits z ≤ k
  digits_few k l = go (dec_lt k (digits z))
    where
      go : Dec (k < digits z) → digits z ≤ k
      go (yes d) = absurd (omega (arith, l, digits_below k d))
      go (no d) = omega (arith, d)

module _ (p q : ℕ) (h : bit_xor p q < 2 ^ 32) (j : ℕ) where
  top_same : digits (bit_xor p q) ≤ j → p / 2 ^ j ≡ q / 2 ^ j
  top_same l = same_by_xor (p / 2 ^ j) (q / 2 ^ j) (sym (xor_shr p q j) ∙ div-eq_of_lt (digits_above (bit_xor p q) h j l))

  top_differs : j < digits (bit_xor p q) → ¬ (p / 2 ^ j ≡ q / 2 ^ j)
  top_differs l e =
      let z : bit_xor p q / 2 ^ j ≡ 0 = xor_shr p q j ∙ ap (λ y. bit_xor y (q / 2 ^ j)) e ∙ xor_self (q / 2 ^ j) in
      let v : 1 * 2 ^ j ≤ bit_xor p q = omega (arith, digits_below (bit_xor p q) h j l) in
      absurd (omega (arith, z, le-div 1 (bit_xor p q) (2 ^ j) (pow_pos j) v))

-- ── So the nearest n of the nearest m ───────────────────────────────────────────────────────

nearer : (w a m n : ℕ) → n ≤ m → m ≤ w → a / 2 ^ (w - m) / 2 ^ (m - n) ≡ a / 2 ^ (w - n)
nearer w a m n h k = shr-shr a (w - m) (m - n) ∙ ap (λ j. a / 2 ^ j) (omega arith)

module _ (w a x b : ℕ) (p : a < 2 ^ w) (q : b < 2 ^ x) (m : ℕ) (y : m ≤ w) (z : m ≤ x) (few : m ≤ 32) where
  -- The nearest m of both, and where they differ.
  abbrev pub apart : ℕ
  apart = bit_xor (a / 2 ^ (w - m)) (b / 2 ^ (x - m))

  apart_few : apart < 2 ^ m
  apart_few = xor_lt m (a / 2 ^ (w - m)) (b / 2 ^ (x - m)) (short w a p y) (short x b q z)
    where
      short : (w a : ℕ) → a < 2 ^ w → m ≤ w → a / 2 ^ (w - m) < 2 ^ m
      short w a p y = shr_below a m (w - m) (subst (λ k. a < 2 ^ k) (let e : w ≡ m + (w - m) = omega arith in e) p)

  fits : apart < 2 ^ 32
  fits = lt_of_lt_of_le apart_few (pow_mono few)

  pub same_few : digits apart ≤ m
  same_few = digits_few apart fits m apart_few

  module _ (n : ℕ) (h : n ≤ m) where
    pub agreed_within : n ≤ m - digits apart → agreed (digit w a) (digit x b) n ≡ true
    agreed_within l =
        near_agreed w a x b p q n (omega arith) (omega arith)
        (sym (nearer w a m n h y) ∙ top_same (a / 2 ^ (w - m)) (b / 2 ^ (x - m)) fits (m - n) (omega (arith, same_few)) ∙ nearer x b m n h z)

    pub agreed_past : m - digits apart < n → agreed (digit w a) (digit x b) n ≡ false
    agreed_past l =
        near_differ w a x b p q n (omega arith) (omega arith)
        (λ e. top_differs (a / 2 ^ (w - m)) (b / 2 ^ (x - m)) fits (m - n) (omega (arith, same_few)) (nearer w a m n h y ∙ e ∙ sym (nearer x b m n h z)))

-- Choices as numbers, and the bits of the next one.
--   same_above          choices that agree from place a up agree from every higher place up
--   half                a place further up is half
--   next_bounds         the next choice is larger, and at most 2 ^ k
--   next_odd            where bit b is 1, a place further gives the same next choice
--   next_half, next_top, next_low   where bit b is 0: the bits above it stay, it turns to 1, those below it are 0
--   Advancing           before each turn of `advance`: from place x on the bits are 0, and below they are as they were
--   advancing_turn      one place further, where the bit there is to turn to 0
--   advanced_one, advanced_none     at the end: the 0 before place x turns to 1, if there is one
use Prim.Native.Nat.{ℕ, suc, ◌+◌, ◌-◌, ◌*◌, ◌^◌, ◌/◌, ◌%◌, ◌<◌, ◌≤◌}
use native.Mathlib.Omega.{arith}
use native.Mathlib.Nat.{mul-le-mul_right, lt-div-mul-add, suc-mul, mul_assoc, pow-suc, pow-succ', div-eq_of_lt}
use native.Mathlib.Decide.{ℕ_discrete, dec_lt}
use native.Mathlib.Numerals.{add-one}
use mathlib.Core.Path.{◌≡◌, sym, subst, ap, ◌∙◌}
use mathlib.Core.Logic.{◌⊎◌, inl, inr}
use mathlib.Core.List.{List}
use lib.ListN.{length, set, length-set}
use lib.Seq.{get_or-set_same, get_or-set_other}
use lib.Pow.{pow_pos, pow-add, shr_lt, shr-shr, shl-shr}
use Rattle.theory.specs.Move.{digit}
use Rattle.graph.specs.Columns.{at}
use Rattle.search.specs.inner.States.{next_after, ChoiceShown, Advanced}

-- ── The next choice ─────────────────────────────────────────────────────────────────────────

pub same_above : (a b c d : ℕ) → a ≤ b → c / 2 ^ a ≡ d / 2 ^ a → c / 2 ^ b ≡ d / 2 ^ b
same_above a b c d h e =
    let n = b - a in
    let z : b ≡ a + n = omega arith in
    ap (λ m. c / 2 ^ m) z ∙ sym (shr-shr c a n) ∙ ap (λ m. m / 2 ^ n) e ∙ shr-shr d a n ∙ ap (λ m. d / 2 ^ m) (sym z)

-- With j = k − b, c / 2 ^ b is below 2 ^ j.
pub next_bounds : (c k b : ℕ) → c < 2 ^ k → b ≤ k → (c < next_after c b) × (next_after c b ≤ 2 ^ k)
next_bounds c k b h l =
    let j = k - b in
    let z : k ≡ j + b = omega arith in
    let w : c / 2 ^ b < 2 ^ j = shr_lt j b (subst (λ n. c < 2 ^ n) z h) in
    let m : suc (c / 2 ^ b) * 2 ^ b ≤ 2 ^ j * 2 ^ b = mul-le-mul_right (2 ^ b) w in
    (omega (arith, suc-mul (c / 2 ^ b) (2 ^ b), lt-div-mul-add {a = c} (pow_pos b)), omega (arith, pow-add 2 j b, ap (λ n. 2 ^ n) z))

pub half : (c b : ℕ) → c / 2 ^ suc b ≡ c / 2 ^ b / 2
half c b = ap (λ n. c / 2 ^ n) (sym (add-one b)) ∙ sym (shr-shr c b 1)

next_odd : (c b : ℕ) → c / 2 ^ b % 2 ≡ 1 → next_after c (suc b) ≡ next_after c b
next_odd c b e =
    let q = c / 2 ^ b in
    let z : suc (q / 2) * 2 ≡ suc q = omega arith in
    ap (λ n. suc n * 2 ^ suc b) (half c b) ∙ ap (λ n. suc (q / 2) * n) (pow-succ' 2 b) ∙ sym (mul_assoc (suc (q / 2)) 2 (2 ^ b)) ∙ ap (λ n. n * 2 ^ b) z

next_half : (c b : ℕ) → c / 2 ^ b % 2 ≡ 0 → next_after c b / 2 ^ suc b ≡ c / 2 ^ suc b
next_half c b e =
    let q = c / 2 ^ b in
    let z : suc q / 2 ≡ q / 2 = omega arith in
    half (next_after c b) b ∙ ap (λ n. n / 2) (shl-shr (suc q) b) ∙ z ∙ sym (half c b)

next_top : (c b : ℕ) → c / 2 ^ b % 2 ≡ 0 → next_after c b / 2 ^ b % 2 ≡ 1
next_top c b e = let q = c / 2 ^ b in omega (arith, shl-shr (suc q) b)

next_low : (c b t : ℕ) → t < b → next_after c b / 2 ^ t % 2 ≡ 0
next_low c b t h =
    let q = suc (c / 2 ^ b) in
    let d = b - suc t in
    let z : b ≡ suc d + t = omega arith in
    let w : q * 2 ^ b / 2 ^ t ≡ q * 2 ^ d * 2 =
    ap (λ n. q * n / 2 ^ t) (ap (λ n. 2 ^ n) z ∙ pow-add 2 (suc d) t)
    ∙ ap (λ n. n / 2 ^ t) (sym (mul_assoc q (2 ^ suc d) (2 ^ t)))
    ∙ shl-shr (q * 2 ^ suc d) t
    ∙ ap (λ n. q * n) (pow-suc 2 d)
    ∙ sym (mul_assoc q (2 ^ d) 2) in
    omega (arith, w)

-- ── Its bits ────────────────────────────────────────────────────────────────────────────────

pub record Advancing (k m : ℕ) (old sig : List ℕ) (x : ℕ) : Type 0 where
  pub few : x ≤ k
  pub size : length sig ≡ length old
  pub low : (j : ℕ) → j < x → at sig j ≡ at old j
  pub zeros : (j : ℕ) → x ≤ j → j < k → at sig j ≡ 0
  pub high : (j : ℕ) → k ≤ j → at sig j ≡ at old j
  pub next : (c : ℕ) → ChoiceShown k c old → x ≤ m → next_after c (k - x) ≡ next_after c (k - m)

module _ {k m : ℕ} {old sig : List ℕ} {x : ℕ} (s : Advancing k m old sig x) (rows : k ≤ length old) where
  -- The bit before place x turns to 0: one from place m on, or a 1.
  pub advancing_turn : 0 < x → (m < x) ⊎ (at sig (x - 1) ≡ 1) → Advancing k m old (set sig (x - 1) 0) (x - 1)
  advancing_turn l h = record {
    few = omega (arith, s.few);
    size = length-set sig (x - 1) 0 ∙ s.size;
    low = λ j a. get_or-set_other sig (x - 1) j 0 0 (λ e. omega arith) ∙ s.low j (omega arith);
    zeros = λ j a b. cleared j a b (ℕ_discrete j (x - 1));
    high = λ j a. get_or-set_other sig (x - 1) j 0 0 (λ e. omega (arith, s.few)) ∙ s.high j a;
    next = λ c w a. go c w a h;
  }
    where
      cleared : (j : ℕ) → x - 1 ≤ j → j < k → Dec (j ≡ x - 1) → at (set sig (x - 1) 0) j ≡ 0
      cleared j a b (yes e) = ap (at (set sig (x - 1) 0)) e ∙ get_or-set_same sig (x - 1) 0 0 (omega (arith, s.size))
      cleared j a b (no e) = get_or-set_other sig (x - 1) j 0 0 e ∙ s.zeros j (omega arith) b

      go : (c : ℕ) → ChoiceShown k c old → x - 1 ≤ m → (m < x) ⊎ (at sig (x - 1) ≡ 1) → next_after c (k - (x - 1)) ≡ next_after c (k - m)
      go c w a (inl b) = let z : x - 1 ≡ m = omega arith in ap (λ n. next_after c (k - n)) z
      go c w a (inr b) = one (ℕ_discrete (x - 1) m)
        where
          one : Dec (x - 1 ≡ m) → next_after c (k - (x - 1)) ≡ next_after c (k - m)
          one (yes z) = ap (λ n. next_after c (k - n)) z
          one (no z) =
              let e : k - (x - 1) ≡ suc (k - x) = omega (arith, s.few) in
              let f : k - suc (x - 1) ≡ k - x = omega arith in
              let d : c / 2 ^ (k - x) % 2 ≡ 1 = ap (λ n. c / 2 ^ n % 2) (sym f) ∙ sym (w (x - 1) (omega (arith, s.few))) ∙ sym (s.low (x - 1) (omega arith)) ∙ b in
              ap (next_after c) e ∙ next_odd c (k - x) d ∙ s.next c w (omega arith)

  -- ── The end: the bit before place x is 0, or there is none ────────────────────────────────

  module _ (l : x ≤ m) (h : 0 < x → ¬ (at sig (x - 1) ≡ 1)) (c : ℕ) (u : c < 2 ^ k) (w : ChoiceShown k c old) where
    even : c / 2 ^ (k - x) % 2 ≡ 0
    even = go (ℕ_discrete x 0)
      where
        go : Dec (x ≡ 0) → c / 2 ^ (k - x) % 2 ≡ 0
        go (yes e) = let z : k - x ≡ k = omega arith in rw z (omega (arith, div-eq_of_lt u))
        go (no e) =
            let f : k - suc (x - 1) ≡ k - x = omega arith in
            let z : at sig (x - 1) ≡ c / 2 ^ (k - x) % 2 = s.low (x - 1) (omega arith) ∙ w (x - 1) (omega (arith, s.few)) ∙ ap (λ n. c / 2 ^ n % 2) f in
            bit (λ y. h (omega arith) (z ∙ y))
          where
            bit : ¬ (c / 2 ^ (k - x) % 2 ≡ 1) → c / 2 ^ (k - x) % 2 ≡ 0
            bit q = omega arith

    next_is : next_after c (k - m) ≡ next_after c (k - x)
    next_is = sym (s.next c w l)

    -- The bits before the one that turns to 1 stay; those after it are 0.
    ended_agree : c / 2 ^ (suc k - x) ≡ next_after c (k - m) / 2 ^ (suc k - x)
    ended_agree =
        let z : suc k - x ≡ suc (k - x) = omega (arith, s.few) in
        rw (z, next_is) (sym (next_half c (k - x) even))

    ended_before : (y : ℕ) → suc y < x → at sig y ≡ digit k (next_after c (k - m)) y
    ended_before y a =
        s.low y (omega arith) ∙ w y (omega (arith, s.few))
        ∙ ap (λ n. n % 2) (same_above (suc k - x) (k - suc y) c (next_after c (k - m)) (omega (arith, s.few)) ended_agree)

    ended_after : (y : ℕ) → x ≤ y → y < k → at sig y ≡ digit k (next_after c (k - m)) y
    ended_after y a b = s.zeros y a b ∙ sym (ap (λ n. n / 2 ^ (k - suc y) % 2) next_is ∙ next_low c (k - x) (k - suc y) (omega arith))

    ended_top : (y : ℕ) → suc y ≡ x → 1 ≡ digit k (next_after c (k - m)) y
    ended_top y e = sym (ap (λ n. next_after c (k - m) / 2 ^ (k - n) % 2) e ∙ ap (λ n. n / 2 ^ (k - x) % 2) next_is ∙ next_top c (k - x) even)

  module _ (l : x ≤ m) (h : 0 < x → ¬ (at sig (x - 1) ≡ 1)) where
    pub advanced_none : ¬ (0 < x) → Advanced k m old sig x
    advanced_none q = record {
      most = l;
      cells = s.high;
      bits = λ c u w y a. ended_after l h c u w y (omega arith) a;
      agree = ended_agree l h;
    }

    pub advanced_one : 0 < x → Advanced k m old (set sig (x - 1) 1) x
    advanced_one q = record {
      most = l;
      cells = λ j a. get_or-set_other sig (x - 1) j 1 0 (λ e. omega (arith, s.few)) ∙ s.high j a;
      bits = λ c u w y a. go c u w y a (ℕ_discrete y (x - 1)) (dec_lt y x);
      agree = ended_agree l h;
    }
      where
        go : (c : ℕ) → c < 2 ^ k → ChoiceShown k c old → (y : ℕ) → y < k → Dec (y ≡ x - 1) → Dec (y < x) → at (set sig (x - 1) 1) y ≡ digit k (next_after c (k - m)) y
        go c u w y a (yes e) d =
            ap (at (set sig (x - 1) 1)) e ∙ get_or-set_same sig (x - 1) 1 0 (omega (arith, s.size, s.few)) ∙ ended_top l h c u w y (omega arith)
        go c u w y a (no e) (yes d) = get_or-set_other sig (x - 1) y 1 0 e ∙ ended_before l h c u w y (omega arith)
        go c u w y a (no e) (no d) = get_or-set_other sig (x - 1) y 1 0 e ∙ ended_after l h c u w y (omega arith) a

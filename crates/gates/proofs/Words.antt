-- Bits gathered in a word.
--   part_length, part_at    a part of a list: how long, what stands there
--   bits_map            what a part of a list of bits shows is bits
--   word_more, word_wider    how large the gathered word is: with one bit more, at the end
--   word_below          so large at most
--   seed_narrow         the seed of a truth word that has nothing below its seed
--   seen_few            no gate sees more than 8 signals
--   ones_few            a sum of bits is no more than how many there are
--   ones_from           it has the ones of the seed and one for each bit that is 1
use Prim.Native.Nat.{ℕ, zero, suc, ◌+◌, ◌-◌, ◌*◌, ◌^◌, ◌/◌, ◌<◌, ◌≤◌}
use native.Mathlib.Omega.{arith}
use native.Mathlib.Decide.{dec_lt}
use native.Mathlib.Nat.{pow-suc, mul_assoc, mul_comm, mul-le-mul_left, mul-le-mul_right}
use mathlib.Core.Path.{◌≡◌, refl, subst}
use mathlib.Core.List.{List, [], ◌∷◌, map}
use lib.Count.{ones, ones_cat}
use lib.Pow.{pow_mono}
use lib.ListN.{length, length-take, length-drop}
use lib.Seq.{get_or-take, get_or-drop}
use Rattle.theory.specs.Gate.{ones as total}
use Rattle.graph.specs.Columns.{at}
use Rattle.gates.specs.inner.Gates.{part, AllBits, word_from, Narrow}

-- ── Parts of a list ─────────────────────────────────────────────────────────────────────────

module _ (list : List ℕ) where
  pub part_length : (lo hi : ℕ) → hi ≤ length list → length (part list lo hi) ≡ hi - lo
  part_length lo hi h = simp (length-take, length-drop) (omega arith)

  pub part_at : (lo hi i : ℕ) → i < hi - lo → at (part list lo hi) i ≡ at list (lo + i)
  part_at lo hi i h = rw (get_or-take, get_or-drop)

pub bits_map : (f : ℕ → ℕ) (l : List ℕ) → ((i : ℕ) → i < length l → f (at l i) ≤ 1) → AllBits (map f l)
bits_map f [] h i = omega arith
bits_map f (x ∷ l) h zero = h 0 (omega arith)
bits_map f (x ∷ l) h (suc i) = bits_map f l (λ j k. h (suc j) (omega arith)) i

-- ── The gathered word ───────────────────────────────────────────────────────────────────────

pub word_more : (seed word x n : ℕ) → word < suc seed * 2 ^ n → x ≤ 1 → word * 2 + x < suc seed * 2 ^ suc n
word_more seed word x n h l = rw (pow-suc 2 n, ← mul_assoc (suc seed) (2 ^ n) 2) (omega arith)

-- With as many bits or more the word may be larger.
pub word_wider : (seed word m n : ℕ) → word < suc seed * 2 ^ m → m ≤ n → word < suc seed * 2 ^ n
word_wider seed word m n h l = omega (arith, mul-le-mul_left (suc seed) (pow_mono {i = m} {j = n} l))

pub word_below : (w : ℕ) (l : List ℕ) → AllBits l → word_from w l < suc w * 2 ^ length l
unfolding word_from
word_below w [] b = omega arith
word_below w (x ∷ l) b =
    let k : suc (w * 2 + x) ≤ suc w * 2 = omega (arith, b 0) in
    rw (pow-suc 2 (length l), mul_comm (2 ^ length l) 2, ← mul_assoc (suc w) 2 (2 ^ length l))
    (omega (arith, word_below (w * 2 + x) l (λ i. b (suc i)), mul-le-mul_right (2 ^ length l) k))

-- `gather` is asked with the seed alone, as a truth word that has nothing below it.
pub seed_narrow : (seed n : ℕ) → Narrow (seed * 512) n → suc seed * 2 ^ n ≤ 264
seed_narrow seed n h = subst (λ d. suc d * 2 ^ n ≤ 264) (let z : seed * 512 / 512 ≡ seed = omega arith in z) h

pub seen_few : (seed n : ℕ) → Narrow (seed * 512) n → n ≤ 8
seen_few seed n h = go (dec_lt 8 n)
  where
    go : Dec (8 < n) → n ≤ 8
    go (no z) = omega arith
    go (yes l) = absurd (let w : 2 ^ 9 ≤ 2 ^ n = pow_mono {i = 9} {j = n} l in omega (arith, seed_narrow seed n h, mul-le-mul_left (suc seed) w))

ones_bit : (x : ℕ) → x ≤ 1 → ones x ≡ x
unfolding ones lib.Count.ones_in
ones_bit zero h = refl
ones_bit (suc zero) h = refl
ones_bit (suc (suc n)) h = absurd (omega arith)

-- One bit more at the low end is one more where it is 1.
pub ones_from : (w : ℕ) (l : List ℕ) → AllBits l → ones (word_from w l) ≡ ones w + total l
unfolding word_from
ones_from w [] b = omega arith
ones_from w (x ∷ l) b = omega (arith, ones_from (w * 2 + x) l (λ i. b (suc i)), ones_cat 1 w x (omega (arith, b 0)), ones_bit x (b 0))

pub ones_few : (l : List ℕ) → AllBits l → total l ≤ length l
ones_few [] b = omega arith
ones_few (x ∷ l) b = omega (arith, b 0, ones_few l (λ i. b (suc i)))

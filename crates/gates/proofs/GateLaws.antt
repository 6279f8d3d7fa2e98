-- The gates of the theory, by counts and by what the paper says of them.
--   AllOne, SomeOne, how_many   all of a list are 1, one of them is, how many are
--   ones_many           the sum of bits is the number of those that are 1
--   all_ones, ones_all, some_ones, ones_some    the sum says whether all are 1, and whether one is
--   inverses            inverter, NAND, NOR and XNOR give the opposite of buffer, AND, OR and XOR
--   passes              an output and a buffer give what they see, an inverter the opposite
--   others_count        of all gates but the selector the number of ones decides
--   selects             the selector gives the first where select is 0, the second where it is 1
--   and_all, or_any, xor_odd, nand_all, nor_any, xnor_even    when each gate gives 1, of a list of bits
use Prim.Native.Nat.{ℕ, zero, suc, ◌+◌, ◌-◌, ◌%◌, ◌<◌, ◌≤◌}
use native.Mathlib.Omega.{arith}
use native.Mathlib.Decide.{ℕ_discrete}
use mathlib.Core.Path.{◌≡◌, refl}
use mathlib.Core.Logic.{◌↔◌}
use mathlib.Core.Bool.{Bool, true, false, cond}
use mathlib.Core.List.{List, [], ◌∷◌}
use lib.Dec.{eqb}
use lib.ListN.{length, get_or}
use borrow.Author.Tests.{eqb-true, eqb-false, ne_eqb}
use Rattle.theory.specs.Gate.{ones, gate_by, gate}
use Rattle.theory.proofs.clocks.Gate.{gate_bit}
use Rattle.gates.specs.inner.Gates.{AllBits}
use Rattle.gates.proofs.Words.{ones_few}

-- ── How many are 1 ──────────────────────────────────────────────────────────────────────────

abbrev pub AllOne : List ℕ → Type 0
AllOne l = (i : ℕ) → i < length l → get_or l i 0 ≡ 1

abbrev pub SomeOne : List ℕ → Type 0
SomeOne l = (i : ℕ) × (i < length l) × (get_or l i 0 ≡ 1)

abbrev pub how_many : List ℕ → ℕ
how_many [] = 0
how_many (a ∷ l) = cond (eqb a 1) (suc (how_many l)) (how_many l)

pub ones_many : (l : List ℕ) → AllBits l → ones l ≡ how_many l
ones_many [] h = refl
ones_many (a ∷ l) h = go (eqb a 1) refl (h 0) (ones_many l (λ i. h (suc i)))
  where
    go : (t : Bool) → eqb a 1 ≡ t → a ≤ 1 → ones l ≡ how_many l → a + ones l ≡ cond t (suc (how_many l)) (how_many l)
    go true q k e = omega (arith, eqb-true a 1 q)
    go false q k e = omega (arith, eqb-false a 1 q)

all_ones : (l : List ℕ) → AllBits l → length l ≤ ones l → AllOne l
all_ones [] h k i j = absurd (omega arith)
all_ones (a ∷ l) h k zero j = omega (arith, h 0, ones_few l (λ i. h (suc i)))
all_ones (a ∷ l) h k (suc i) j = all_ones l (λ i. h (suc i)) (omega (arith, h 0)) i (omega arith)

ones_all : (l : List ℕ) → AllOne l → length l ≤ ones l
ones_all [] h = omega arith
ones_all (a ∷ l) h = omega (arith, h 0 (omega arith), ones_all l (λ i k. h (suc i) (omega arith)))

some_ones : (l : List ℕ) → AllBits l → 0 < ones l → SomeOne l
some_ones [] h k = absurd (omega arith)
some_ones (a ∷ l) h k = go (eqb a 1) refl (h 0) (some_ones l (λ i. h (suc i)))
  where
    go : (t : Bool) → eqb a 1 ≡ t → a ≤ 1 → (0 < ones l → SomeOne l) → SomeOne (a ∷ l)
    go true q j f = (0, omega arith, eqb-true a 1 q)
    go false q j f = let s = f (omega (arith, eqb-false a 1 q)) in (suc s.0, omega (arith, s.1), s.2)

ones_some : (l : List ℕ) (i : ℕ) → get_or l i 0 ≡ 1 → 0 < ones l
ones_some [] i q = absurd (omega arith)
ones_some (a ∷ l) zero q = omega arith
ones_some (a ∷ l) (suc i) q = omega (arith, ones_some l i q)

-- ── The gates ───────────────────────────────────────────────────────────────────────────────

pub others_count : (k : ℕ) (l : List ℕ) → ¬ (k ≡ 10) → gate k l ≡ gate_by k (length l) (ones l)
others_count k l n = rw (ne_eqb k 10 n)

pub selects : (first second : ℕ) → first ≤ 1 → second ≤ 1 → (gate 10 (0 ∷ first ∷ second ∷ []) ≡ first) × (gate 10 (1 ∷ first ∷ second ∷ []) ≡ second)
selects first second f s = (omega arith, omega arith)

pub inverses : (l : List ℕ) → (gate 3 l ≡ 1 - gate 2 l) × (gate 7 l ≡ 1 - gate 4 l) × (gate 8 l ≡ 1 - gate 5 l) × (gate 9 l ≡ 1 - gate 6 l)
inverses l = (omega arith, refl, omega arith, refl)

pub passes : (x : ℕ) → x ≤ 1 → (gate 1 (x ∷ []) ≡ x) × (gate 2 (x ∷ []) ≡ x) × (gate 3 (x ∷ []) ≡ 1 - x)
passes x h = (omega arith, omega arith, omega arith)

-- A gate that is the inverse of one that says P.
opposite : {P : Type 0} (g h : ℕ) → g ≤ 1 → h ≡ 1 - g → (g ≡ 1) ↔ P → (h ≡ 1) ↔ (¬ P)
opposite {P} g h l e (f, b) = (λ q p. absurd (let z : ⊥ = omega (arith, b p) in z), λ n. go (ℕ_discrete g 1) n)
  where
    go : Dec (g ≡ 1) → ¬ P → h ≡ 1
    go (yes q) n = absurd (n (f q))
    go (no q) n = omega arith

module _ (l : List ℕ) (h : AllBits l) where
  -- A list of bits has as many ones as members exactly where all are 1.
  pub and_all : (gate 4 l ≡ 1) ↔ AllOne l
  and_all = (λ q. all_ones l h (omega arith), λ f. omega (arith, ones_all l f))

  pub or_any : (gate 5 l ≡ 1) ↔ SomeOne l
  or_any = (λ q. some_ones l h (omega arith), λ s. omega (arith, ones_some l s.0 s.2))

  pub xor_odd : (gate 6 l ≡ 1) ↔ (how_many l % 2 ≡ 1)
  xor_odd = let e = ones_many l h in (λ q. omega arith, λ q. omega arith)

  pub nand_all : (gate 7 l ≡ 1) ↔ (¬ AllOne l)
  nand_all = opposite (gate 4 l) (gate 7 l) (gate_bit 4 l) (inverses l).1 and_all

  pub nor_any : (gate 8 l ≡ 1) ↔ (¬ SomeOne l)
  nor_any = opposite (gate 5 l) (gate 8 l) (gate_bit 5 l) (inverses l).2 or_any

  pub xnor_even : (gate 9 l ≡ 1) ↔ (how_many l % 2 ≡ 0)
  xnor_even = let e = ones_many l h in (λ q. omega arith, λ q. omega arith)

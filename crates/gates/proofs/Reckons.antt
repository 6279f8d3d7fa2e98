-- The crate's theorem: a truth word works.
--   picked_low, picked_few    below 256 the number of ones is picked; a bit from 0 to 8 is
--   works               a word that has the values of a gate of n inputs, one for each number of ones, works
--   selector_works      so does a selector's word that has a value for each row of three inputs
use Prim.Native.Nat.{ℕ, zero, suc, ◌+◌, ◌*◌, ◌^◌, ◌/◌, ◌%◌, ◌<◌, ◌≤◌}
use native.Mathlib.Omega.{arith}
use mathlib.Core.Path.{◌≡◌, refl, sym, ap, ◌∙◌, subst}
use mathlib.Core.Bool.{Bool, true, false, cond}
use mathlib.Core.List.{List, [], ◌∷◌, map}
use borrow.Author.Tests.{lt-ltb, ltb-true}
use lib.Count.{ones, ones-le}
use lib.Dec.{ltb}
use lib.Pow.{pow_mono}
use lib.ListN.{length}
use Rattle.theory.specs.Gate.{ones as total, gate_by, gate}
use Rattle.graph.specs.Columns.{at, bit}
use Rattle.gates.specs.inner.Gates.{AllBits, word_from, picked, worked, Reckons}
use Rattle.gates.proofs.Spelt.{Spelt}
use Rattle.gates.proofs.Words.{ones_from, ones_few, word_below}
use Rattle.gates.proofs.GateLaws.{others_count}

-- ── What is picked ──────────────────────────────────────────────────────────────────────────

pub picked_low : (w : ℕ) → w < 256 → picked w ≡ ones w
unfolding picked
picked_low w h = rw (lt-ltb w 256 h)

pub picked_few : (w : ℕ) → picked w ≤ 8
unfolding picked
picked_few w = go (ltb w 256) refl
  where
    go : (t : Bool) → ltb w 256 ≡ t → cond t (ones w) (w % 8) ≤ 8
    go true q = ones-le 8 w (ltb-true w 256 q)
    go false q = omega arith

-- ── Where the number of ones decides ────────────────────────────────────────────────────────

-- The word is below 512, so that the seed is 0 and the gathered word has as many ones as there are among the inputs; the bit at that number is the gate's value.
module _ (kind n truth : ℕ) (other : ¬ (kind ≡ 10)) (few : n ≤ 8) (s : Spelt (gate_by kind n) (n + 1) truth) where
  no_seed : truth / 512 ≡ 0
  no_seed = let p : 2 ^ (n + 1) ≤ 2 ^ 9 = pow_mono {i = n + 1} {j = 9} (omega arith) in omega (arith, s.short)

  wide : 2 ^ n ≤ 256
  wide = pow_mono {i = n} {j = 8} few

  gives : (l : List ℕ) → length l ≡ n → AllBits l → worked truth l ≡ gate kind l
  unfolding ones
  gives l e b =
      let k : word_from 0 l < 256 = omega (arith, wide, word_below 0 l b, ap (λ m. 2 ^ m) e) in
      let c : picked (word_from 0 l) ≡ total l = omega (arith, picked_low (word_from 0 l) k, ones_from 0 l b) in
      ap (λ w. bit truth (picked (word_from w l))) no_seed ∙ ap (bit truth) c
      ∙ s.spells (total l) (omega (arith, ones_few l b)) ∙ ap (λ m. gate_by kind m (total l)) (sym e) ∙ sym (others_count kind l other)

  pub works : Reckons kind n truth
  works = record { gives = gives; narrow = subst (λ d. suc d * 2 ^ n ≤ 264) (sym no_seed) (omega (arith, wide)) }

-- ── The selector ────────────────────────────────────────────────────────────────────────────

either : (P : ℕ → Type 0) → P 0 → P 1 → (x : ℕ) → x ≤ 1 → P x
either P p q zero h = p
either P p q (suc zero) h = q
either P p q (suc (suc x)) h = absurd (let z : ⊥ = omega arith in z)

-- The eight rows of three bits, select highest.
abbrev triples : List (List ℕ)
triples = (0 ∷ 0 ∷ 0 ∷ []) ∷ (0 ∷ 0 ∷ 1 ∷ []) ∷ (0 ∷ 1 ∷ 0 ∷ []) ∷ (0 ∷ 1 ∷ 1 ∷ []) ∷ (1 ∷ 0 ∷ 0 ∷ []) ∷ (1 ∷ 0 ∷ 1 ∷ []) ∷ (1 ∷ 1 ∷ 0 ∷ []) ∷ (1 ∷ 1 ∷ 1 ∷ []) ∷ []

-- Both equations are `refl` where the word is written out.
module _ (truth : ℕ) (seed : truth / 512 ≡ 32) (right : map (worked truth) triples ≡ map (gate 10) triples) where
  selector_gives : (l : List ℕ) → length l ≡ 3 → AllBits l → worked truth l ≡ gate 10 l
  selector_gives [] e b = absurd (let z : ⊥ = omega arith in z)
  selector_gives (s ∷ []) e b = absurd (let z : ⊥ = omega arith in z)
  selector_gives (s ∷ f ∷ []) e b = absurd (let z : ⊥ = omega arith in z)
  selector_gives (s ∷ f ∷ g ∷ x ∷ l) e b = absurd (let z : ⊥ = omega arith in z)
  selector_gives (s ∷ f ∷ g ∷ []) e b = either (λ s. Right s f g) (firsts 0 (row 0) (row 1) (row 2) (row 3)) (firsts 1 (row 4) (row 5) (row 6) (row 7)) s (b 0)
    where
      Right : ℕ → ℕ → ℕ → Type 0
      Right s f g = worked truth (s ∷ f ∷ g ∷ []) ≡ gate 10 (s ∷ f ∷ g ∷ [])

      row : (k : ℕ) → at (map (worked truth) triples) k ≡ at (map (gate 10) triples) k
      row k = ap (λ l. at l k) right

      firsts : (s : ℕ) → Right s 0 0 → Right s 0 1 → Right s 1 0 → Right s 1 1 → Right s f g
      firsts s p q p' q' = either (λ f. Right s f g) (either (Right s 0) p q g (b 2)) (either (Right s 1) p' q' g (b 2)) f (b 1)

  pub selector_works : Reckons 10 3 truth
  selector_works = record { gives = selector_gives; narrow = omega arith }

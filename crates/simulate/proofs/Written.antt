-- Stores in turn, over a list of places.
--   written_more        one store more
--   written_length      as long as before
--   written_other       what stands where nothing is stored
--   written_at          what stands where something is, where no place is stored to twice
--   written_bits        bits among bits
--   written_run         places in a row
use Prim.Native.Nat.{ℕ, zero, suc, ◌+◌, ◌<◌, ◌≤◌}
use native.Mathlib.Omega.{arith}
use native.Mathlib.Numerals.{add-one}
use native.Mathlib.Decide.{ℕ_discrete}
use mathlib.Core.Path.{◌≡◌, refl, sym, ap, ◌∙◌, subst}
use mathlib.Core.List.{List, [], ◌∷◌, map, map-append}
use lib.ListN.{length, take, set, length-set, length-take, length-map}
use lib.Seq.{sets, take-suc, get_or-set_same, get_or-set_other}
use Rattle.theory.proofs.numbers.Stores.{sets_sets}
use Rattle.graph.specs.Columns.{at}
use Rattle.gates.specs.inner.Gates.{AllBits}
use Rattle.gates.proofs.Row.{bits_set}
use Rattle.simulate.specs.inner.Signals.{written}

module _ (place f : ℕ → ℕ) where
  pub written_more : (n : ℕ) (l : List ℕ) {now : List ℕ} → now ≡ written place f n l → set now (place n) (f n) ≡ written place f (n + 1) l
  unfolding written
  written_more n l e = rw (e, add-one)

  pub written_length : (n : ℕ) (l : List ℕ) → length (written place f n l) ≡ length l
  unfolding written
  written_length zero l = refl
  written_length (suc n) l = simp length-set (written_length n l)

  pub written_other : (n : ℕ) (l : List ℕ) (u : ℕ) → ((i : ℕ) → i < n → ¬ (place i ≡ u)) → at (written place f n l) u ≡ at l u
  unfolding written
  written_other zero l u a = refl
  written_other (suc n) l u a =
      get_or-set_other (written place f n l) (place n) u (f n) 0 (λ q. a n (omega arith) (sym q)) ∙ written_other n l u (λ i h. a i (omega arith))

  -- By cases at the last store: it is this one, or it goes elsewhere.
  pub written_at : (n : ℕ) (l : List ℕ) → ((i j : ℕ) → i < n → j < n → place i ≡ place j → i ≡ j) → ((i : ℕ) → i < n → place i < length l)
      → (i : ℕ) → i < n → at (written place f n l) (place i) ≡ f i
  unfolding written
  written_at zero l a b i h = absurd (omega arith)
  written_at (suc n) l a b i h = go (ℕ_discrete i n) (written_at n l (λ i j h k. a i j (omega arith) (omega arith)) (λ i h. b i (omega arith)) i)
    where
      old : List ℕ
      old = written place f n l

      go : Dec (i ≡ n) → (i < n → at old (place i) ≡ f i) → at (set old (place n) (f n)) (place i) ≡ f i
      go (yes e) before = subst (λ j. at (set old (place n) (f n)) (place j) ≡ f j) (sym e) (get_or-set_same old (place n) (f n) 0 (omega (arith, written_length n l, b n (omega arith))))
      go (no e) before = get_or-set_other old (place n) (place i) (f n) 0 (λ q. e (a i n h (omega arith) q)) ∙ before (omega arith)

  pub written_bits : (n : ℕ) (l : List ℕ) → ((i : ℕ) → i < n → f i ≤ 1) → AllBits l → AllBits (written place f n l)
  unfolding written
  written_bits zero l b a = a
  written_bits (suc n) l b a = bits_set (written place f n l) (place n) (f n) (b n (omega arith)) (written_bits n l (λ i h. b i (omega arith)) a)

pub written_run : (g : ℕ → ℕ) (xs : List ℕ) (start n : ℕ) (l : List ℕ) → n ≤ length xs
    → written (λ i. start + i) (λ i. g (at xs i)) n l ≡ sets l start (map g (take n xs))
unfolding written
written_run g xs start zero l h = refl
written_run g xs start (suc n) l h =
    ap (λ m. set m (start + n) (g (at xs n))) (written_run g xs start n l (omega arith))
    ∙ sets_sets (map g (take n xs)) (g (at xs n) ∷ []) l start (start + n) (omega (arith, length-map (take n xs) g, length-take n xs))
    ∙ ap (sets l start) (sym (ap (map g) (take-suc xs n 0 h) ∙ map-append g (take n xs) (at xs n ∷ [])))

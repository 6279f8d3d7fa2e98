-- The tests of rule 13.
--   bits_told           whether each byte is a bit, or some byte is not
--   fits_told           whether each word fits, or some word does not
--   counted             the nodes that are kept for their kind are those of the kind
use Prim.Native.Nat.{ℕ, zero, suc, ◌+◌, ◌^◌, ◌<◌, ◌≤◌}
use native.Mathlib.Omega.{arith}
use native.Mathlib.Numerals.{add-one}
use native.Mathlib.Decide.{ℕ_discrete}
use mathlib.Core.Path.{◌≡◌, refl, sym, ap, ap₂, ◌∙◌, subst}
use mathlib.Core.Bool.{Bool, true, false, cond}
use mathlib.Core.List.{List, [], ◌∷◌}
use lib.Dec.{eqb, leb, ltb}
use lib.ListN.{length, get_or, take, length-take}
use lib.Seq.{get_or-take}
use borrow.Author.Tests.{eq-eqb, ne_eqb, le-leb, lt-leb}
use Rattle.std.specs.Bool.{MatchBool}
use Rattle.std.specs.List.{AllWithin, HoldsAt, filter, zip}
use Rattle.std.proofs.lemmas.Grind.{get_or_default_zero}
use Rattle.std.proofs.lemmas.List.Filters.{length-filter_more}
use Rattle.std.proofs.lemmas.Slice.Zip.{length-zip, get_or-zip}
use Rattle.theory.specs.Clock.{gather}
use Rattle.netlist.specs.declared.Netlist.{Netlist}
use Rattle.netlist.specs.Net.{regs_of}
use Rattle.simulate.specs.Clock.{earlier}
use Rattle.simulate.specs.Step.{only_bits, words_fit}
use Rattle.simulate.proofs.Bits.{before_hit, before_miss}

neither : (b : Bool) → cond b false false ≡ false
neither true = refl
neither false = refl

-- ── Bytes ───────────────────────────────────────────────────────────────────────────────────

all_bits : (l : List ℕ) → ((k : ℕ) → k < length l → get_or l k 0 ≤ 1) → only_bits l ≡ true
unfolding only_bits
all_bits [] h = refl
all_bits (b ∷ l) h = rw (le-leb b 1 (h 0 (omega arith))) (all_bits l (λ k i. h (suc k) (omega arith)))

some_byte : (l : List ℕ) (k : ℕ) → k < length l → 1 < get_or l k 0 → only_bits l ≡ false
unfolding only_bits
some_byte [] k i h = absurd (omega arith)
some_byte (b ∷ l) zero i h = rw (lt-leb b 1 h)
some_byte (b ∷ l) (suc k) i h = rw (some_byte l k (omega arith) h) (neither (leb b 1))

pub bits_told : (l : List ℕ) (r : Bool) → MatchBool r (AllWithin (λ x. x ≤ 1) l 0 (length l)) ((k : ℕ) × (k < length l) × HoldsAt (λ x. 1 < x) l k) → r ≡ only_bits l
bits_told l true h = sym (all_bits l (λ k i. h k 0 (omega arith) i))
bits_told l false h = sym (some_byte l h.0 h.1 (h.2 0))

-- ── Words ───────────────────────────────────────────────────────────────────────────────────

module _ (net : Netlist) (words : List ℕ) where
  abbrev fits_at : ℕ → Bool
  fits_at e = ltb (get_or words e 0) (2 ^ (regs_of net).count e)

  all_words : (n : ℕ) → ((e : ℕ) → e < n → fits_at e ≡ true) → words_fit net words n ≡ true
  unfolding words_fit
  all_words zero h = refl
  all_words (suc n) h = rw (all_words n (λ e i. h e (omega arith))) (h n (omega arith))

  some_word : (n e : ℕ) → e < n → fits_at e ≡ false → words_fit net words n ≡ false
  unfolding words_fit
  some_word zero e i h = absurd (omega arith)
  some_word (suc n) e i h = go (ℕ_discrete e n) (λ l. some_word n e l h)
    where
      go : Dec (e ≡ n) → (e < n → words_fit net words n ≡ false) → words_fit net words (suc n) ≡ false
      go (yes z) before = rw (sym (ap fits_at z) ∙ h) (neither (words_fit net words n))
      go (no z) before = rw (before (omega arith))

  -- Each word stands beside its edge's count.
  abbrev beside : ℕ → List (ℕ × ℕ)
  beside n = zip (take n words) net.count

  module _ (n : ℕ) (in_words : n ≤ length words) (in_count : n ≤ length net.count) where
    beside_length : length (beside n) ≡ n
    beside_length = length-zip (take n words) net.count ∙ omega (arith, length-take n words)

    beside_at : (e : ℕ) (d : ℕ × ℕ) → e < n → get_or (beside n) e d ≡ (get_or words e 0, get_or net.count e 0)
    beside_at e d i =
        get_or-zip (take n words) net.count e d (omega (arith, length-take n words)) (omega arith)
        ∙ ap₂ (λ w c. (w, c)) (get_or-take n words e d.0 i ∙ get_or_default_zero words e d.0 (omega arith)) (get_or_default_zero net.count e d.1 (omega arith))

    pub fits_told : (r : Bool)
        → MatchBool r (AllWithin (λ p. ltb p.0 (2 ^ p.1) ≡ true) (beside n) 0 (length (beside n))) ((e : ℕ) × (e < length (beside n)) × HoldsAt (λ p. ltb p.0 (2 ^ p.1) ≡ false) (beside n) e)
        → r ≡ words_fit net words n
    fits_told true h = sym (all_words n (λ e i. subst (λ p. ltb p.0 (2 ^ p.1) ≡ true) (beside_at e (0, 0) i) (h e (0, 0) (omega arith) (omega (arith, beside_length)))))
    fits_told false h =
        let i : h.0 < n = omega (arith, beside_length, h.1) in
        sym (some_word n h.0 i (subst (λ p. ltb p.0 (2 ^ p.1) ≡ false) (beside_at h.0 (0, 0) i) (h.2 (0, 0))))

-- ── Nodes ───────────────────────────────────────────────────────────────────────────────────

earlier_none : (net : Netlist) (k : ℕ) → earlier net k 0 ≡ 0
unfolding earlier gather
earlier_none net k = refl

pub counted : (net : Netlist) (k n : ℕ) → n ≤ length net.kind → length (filter (λ x. eqb x k) (take n net.kind)) ≡ earlier net k n
counted net k zero h = sym (earlier_none net k)
counted net k (suc n) h = go (ℕ_discrete (get_or net.kind n 0) k) (counted net k n (omega arith))
  where
    more : length (filter (λ x. eqb x k) (take (suc n) net.kind)) ≡ length (filter (λ x. eqb x k) (take n net.kind)) + cond (eqb (get_or net.kind n 0) k) 1 0
    more = ap (λ i. length (filter (λ x. eqb x k) (take i net.kind))) (sym (add-one n)) ∙ length-filter_more (λ x. eqb x k) net.kind n 0 (omega arith)

    go : Dec (get_or net.kind n 0 ≡ k) → length (filter (λ x. eqb x k) (take n net.kind)) ≡ earlier net k n
        → length (filter (λ x. eqb x k) (take (suc n) net.kind)) ≡ earlier net k (suc n)
    go (yes z) before = more ∙ rw (eq-eqb (get_or net.kind n 0) k z) (omega (arith, before, before_hit net k n z))
    go (no z) before = more ∙ rw (ne_eqb (get_or net.kind n 0) k z) (omega (arith, before, before_miss net k n z))

-- Values of cells under choices.
--   values_length, values_at   the first n values are n, and do not change when more cells are added
--   part_same                  what is seen of a part of a list depends on its members alone
--   look_bit, look_cell        an operand is a chosen bit or a cell
--   either, earlier_of         an operand of a right program is a bit below k or an earlier cell, as one fact of two cases
--   value_gate, value_bit      a cell's value is its gate's, of what its operands show: 0 or 1
--   operand_bit                so is what an operand shows
--   agree                      choices with the same first m bits give the same to every cell of a level up to m
use Prim.Native.Nat.{ℕ, zero, suc, ◌+◌, ◌-◌, ◌^◌, ◌/◌, ◌%◌, ◌<◌, ◌≤◌}
use native.Mathlib.Omega.{arith}
use native.Mathlib.Decide.{ℕ_discrete, dec_lt}
use mathlib.Core.Path.{◌≡◌, refl, sym, ap, ap₂, ◌∙◌}
use mathlib.Core.Logic.{⊎_elim, ◌⊎◌, inl, inr}
use mathlib.Core.List.{List, [], ◌∷◌, map}
use borrow.Author.Tests.{lt-ltb, le-ltb}
use lib.ListN.{length, length-append, get_or-append}
use lib.Seq.{get_or_at}
use Rattle.theory.specs.Gate.{gate}
use Rattle.theory.specs.Move.{digit}
use Rattle.theory.proofs.clocks.Gate.{gate_bit}
use Rattle.graph.specs.Columns.{at}
use Rattle.gates.specs.inner.Gates.{part}
use Rattle.gates.proofs.Words.{part_length, part_at}
use Rattle.search.specs.inner.Program.{Program, look, operands_of, values_to, value_at, RightProgram, Levelled}
use Rattle.search.proofs.Putting.{climb}
use Rattle.search.proofs.Next.{same_above}

-- ── Operands ────────────────────────────────────────────────────────────────────────────────

map_same : (f g : ℕ → ℕ) (l : List ℕ) → ((i : ℕ) → i < length l → f (at l i) ≡ g (at l i)) → map f l ≡ map g l
map_same f g [] e = refl
map_same f g (x ∷ l) e = ap₂ (λ a b. a ∷ b) (e 0 (omega arith)) (map_same f g l (λ i h. e (suc i) (omega arith)))

pub part_same : (f g : ℕ → ℕ) (l : List ℕ) (lo hi : ℕ) → hi ≤ length l → ((j : ℕ) → lo ≤ j → j < hi → f (at l j) ≡ g (at l j))
    → map f (part l lo hi) ≡ map g (part l lo hi)
part_same f g l lo hi h e = map_same f g (part l lo hi) one
  where
    one : (i : ℕ) → i < length (part l lo hi) → f (at (part l lo hi) i) ≡ g (at (part l lo hi) i)
    one i a =
        let b : i < hi - lo = omega (arith, part_length l lo hi h) in
        rw (part_at l lo hi i b) (e (lo + i) (omega arith) (omega arith))

pub look_bit : (k c : ℕ) (vals : List ℕ) (x : ℕ) → x < 32 → look k c vals x ≡ digit k c x
unfolding look
look_bit k c vals x h = rw (lt-ltb x 32 h)

pub look_cell : (k c : ℕ) (vals : List ℕ) (x : ℕ) → 32 ≤ x → look k c vals x ≡ at vals (x - 32)
unfolding look
look_cell k c vals x h = rw (le-ltb x 32 h)

-- ── Values ──────────────────────────────────────────────────────────────────────────────────

module _ (P : Program) (k c : ℕ) where
  values_length : (n : ℕ) → length (values_to P k c n) ≡ n
  unfolding values_to
  values_length zero = refl
  values_length (suc n) = simp length-append (omega (arith, values_length n))

  pub values_at : (n i : ℕ) → i < n → at (values_to P k c n) i ≡ value_at P k c i
  unfolding values_to
  values_at zero i h = absurd (omega arith)
  values_at (suc n) i h = go (λ l. values_at n i l) (ℕ_discrete i n)
    where
      go : (i < n → at (values_to P k c n) i ≡ value_at P k c i) → Dec (i ≡ n)
          → at (values_to P k c (suc n)) i ≡ value_at P k c i
      go before (yes e) = ap (λ m. at (values_to P k c (suc m)) i) (sym e)
      go before (no e) = get_or-append (values_to P k c n) _ 0 i (omega (arith, values_length n)) ∙ before (omega arith)

  pub value_gate : (i : ℕ) → value_at P k c i ≡ gate (at P.kind i) (map (look k c (values_to P k c i)) (operands_of P.first P.operand i))
  unfolding values_to
  value_gate i = get_or_at (values_to P k c i) _ [] 0 i (values_length i)

  pub value_bit : (i : ℕ) → value_at P k c i ≤ 1
  value_bit i = rw (value_gate i) (gate_bit (at P.kind i) (map (look k c (values_to P k c i)) (operands_of P.first P.operand i)))

-- ── Operands of a right program ─────────────────────────────────────────────────────────────

pub earlier_of : (k x i : ℕ) → k ≤ 24 → (x < k) ⊎ ((32 ≤ x) × (x < 32 + i)) → (x < 32 → x < k) × (32 ≤ x → x < 32 + i)
earlier_of k x i few (inl w) = (λ l. w, λ l. omega arith)
earlier_of k x i few (inr w) = (λ l. absurd (let z : ⊥ = omega arith in z), λ l. w.1)

-- ── What a value depends on ─────────────────────────────────────────────────────────────────

module _ {cells k : ℕ} {P : Program} (f : RightProgram cells k P) where
  pub either : (i j : ℕ) → i < cells → at P.first i ≤ j → j < at P.first (suc i) → (at P.operand j < k) ⊎ ((32 ≤ at P.operand j) × (at P.operand j < 32 + i))
  either i j h a b = go (dec_lt (at P.operand j) 32)
    where
      go : Dec (at P.operand j < 32) → (at P.operand j < k) ⊎ ((32 ≤ at P.operand j) × (at P.operand j < 32 + i))
      go (yes l) = inl ((f.earlier i j h a b).0 l)
      go (no l) = let big : 32 ≤ at P.operand j = omega arith in inr (big, (f.earlier i j h a b).1 big)

  -- An operand of cell i shows a chosen bit, or an earlier cell's value.
  pub operand_bit : (c i j : ℕ) → i < cells → at P.first i ≤ j → j < at P.first (suc i) → look k c (values_to P k c i) (at P.operand j) ≤ 1
  operand_bit c i j h a b =
      let x = at P.operand j in
      ⊎_elim
      (λ (w : x < k). rw (look_bit k c (values_to P k c i) x (omega (arith, f.few_bits))) (omega arith))
      (λ (w : (32 ≤ x) × (x < 32 + i)).
      rw (look_cell k c (values_to P k c i) x w.0, values_at P k c i (x - 32) (omega arith)) (value_bit P k c (x - 32)))
      (either i j h a b)

  module _ {levels : List ℕ} (v : Levelled cells k P levels) (c d m : ℕ) (few : m ≤ k) (e : c / 2 ^ (k - m) ≡ d / 2 ^ (k - m)) where
    inside : (i : ℕ) → i < at levels (suc m) → i < cells
    inside i h = omega (arith, v.whole, climb levels (suc k) (λ n l. v.climbs n (omega arith)) (suc m) (suc k) (omega arith) (omega arith))

    -- The operands of a cell of a level up to m: bits below m, on which the choices agree, and earlier cells.
    operand_same : (i j : ℕ) → i < at levels (suc m) → at P.first i ≤ j → j < at P.first (suc i)
        → ((n : ℕ) → n < i → value_at P k c n ≡ value_at P k d n)
        → look k c (values_to P k c i) (at P.operand j) ≡ look k d (values_to P k d i) (at P.operand j)
    operand_same i j h a b before = go (either i j (inside i h) a b)
      where
        go : (at P.operand j < k) ⊎ ((32 ≤ at P.operand j) × (at P.operand j < 32 + i))
            → look k c (values_to P k c i) (at P.operand j) ≡ look k d (values_to P k d i) (at P.operand j)
        go (inl w) =
            let x = at P.operand j in
            let small : x < 32 = omega (arith, f.few_bits) in
            let r = v.sees m i j few h a b small in
            look_bit k c _ x small ∙ ap (λ n. n % 2) (same_above (k - m) (k - suc x) c d (omega arith) e) ∙ sym (look_bit k d _ x small)
        go (inr w) =
            let x = at P.operand j in
            look_cell k c _ x w.0
            ∙ values_at P k c i (x - 32) (omega arith)
            ∙ before (x - 32) (omega arith)
            ∙ sym (values_at P k d i (x - 32) (omega arith))
            ∙ sym (look_cell k d _ x w.0)

    agree_below : (n i : ℕ) → i < n → i < at levels (suc m) → value_at P k c i ≡ value_at P k d i
    agree_below zero i l h = absurd (omega arith)
    agree_below (suc n) i l h =
        value_gate P k c i
        ∙ ap (gate (at P.kind i)) (part_same _ _ P.operand (at P.first i) (at P.first (suc i)) (f.in_rows i (inside i h))
        (λ j a b. operand_same i j h a b (λ t w. agree_below n t (omega arith) (omega arith))))
        ∙ sym (value_gate P k d i)

    pub agree : (i : ℕ) → i < at levels (suc m) → value_at P k c i ≡ value_at P k d i
    agree i h = agree_below (suc i) i (omega arith) h

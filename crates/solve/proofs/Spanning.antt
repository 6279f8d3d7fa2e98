-- Spans, cell by cell.
--   reach_bit, reach_cell      what a chosen bit depends on, and what a cell does
--   reach_kept          a store at a later cell leaves what an operand depends on
--   seen_length, seen_at, seen_each, seen_all     the operands of a cell as a list, and as the places where they stand
--   spans_more          of one cell more
use Prim.Native.Nat.{ℕ, suc, ◌+◌, ◌-◌, ◌≤◌, ◌<◌}
use native.Mathlib.Omega.{arith}
use native.Mathlib.Decide.{ℕ_discrete, dec_lt}
use mathlib.Core.Path.{◌≡◌, sym, subst, ap, ◌∙◌}
use mathlib.Core.List.{List}
use borrow.Author.Tests.{lt-ltb, le-ltb}
use lib.ListN.{length, set}
use lib.Seq.{get_or-set_same, get_or-set_other}
use Rattle.graph.specs.Columns.{at}
use Rattle.gates.proofs.Words.{part_length, part_at}
use Rattle.search.specs.inner.Program.{Program, operands_of, RightProgram}
use Rattle.solve.specs.inner.Parts.{depth, Most, Spans}

pub reach_bit : (span : List ℕ) (x : ℕ) → x < 32 → depth span x ≡ suc x
unfolding depth
reach_bit span x h = rw (lt-ltb x 32 h)

pub reach_cell : (span : List ℕ) (x : ℕ) → 32 ≤ x → depth span x ≡ at span (x - 32)
unfolding depth
reach_cell span x h = rw (le-ltb x 32 h)

-- The operands of a cell as a list, and as the places where they stand.
module _ (first operand : List ℕ) (i : ℕ) (rows : at first (suc i) ≤ length operand) where
  pub seen_length : length (operands_of first operand i) ≡ at first (suc i) - at first i
  seen_length = part_length operand (at first i) (at first (suc i)) rows

  pub seen_at : (t : ℕ) → t < length (operands_of first operand i) → at (operands_of first operand i) t ≡ at operand (at first i + t)
  seen_at t h = part_at operand (at first i) (at first (suc i)) t (omega (arith, seen_length))

  -- What holds of each place holds of each member, and the other way.
  pub seen_each : (P : ℕ → Type 0) → ((j : ℕ) → at first i ≤ j → j < at first (suc i) → P (at operand j)) → (t : ℕ) → t < length (operands_of first operand i) → P (at (operands_of first operand i) t)
  seen_each P w t h = subst P (sym (seen_at t h)) (w (at first i + t) (omega arith) (omega (arith, seen_length)))

  pub seen_all : (P : ℕ → Type 0) → ((t : ℕ) → t < length (operands_of first operand i) → P (at (operands_of first operand i) t)) → (j : ℕ) → at first i ≤ j → j < at first (suc i) → P (at operand j)
  seen_all P w j a b =
      let t = j - at first i in
      let h : t < length (operands_of first operand i) = omega (arith, seen_length) in
      let e : at first i + t ≡ j = omega arith in
      subst P (seen_at t h ∙ ap (at operand) e) (w t h)

module _ {cells k : ℕ} {P : Program} (f : RightProgram cells k P) (span : List ℕ) (i r : ℕ) (s : Spans k P.first P.operand span i) (l : i < cells)
    (rows : cells ≤ length span) (t : Most (operands_of P.first P.operand i) span r) where
  abbrev first : List ℕ
  first = P.first

  abbrev operand : List ℕ
  operand = P.operand

  -- Operands of the first cells are bits or cells before i.
  reach_kept : (c j : ℕ) → c ≤ i → at first c ≤ j → j < at first (suc c) → depth (set span i r) (at operand j) ≡ depth span (at operand j)
  reach_kept c j h a b = go (dec_lt (at operand j) 32)
    where
      go : Dec (at operand j < 32) → depth (set span i r) (at operand j) ≡ depth span (at operand j)
      go (yes x) = reach_bit (set span i r) (at operand j) x ∙ sym (reach_bit span (at operand j) x)
      go (no x) =
          let big : 32 ≤ at operand j = omega arith in
          reach_cell (set span i r) (at operand j) big
          ∙ get_or-set_other span i (at operand j - 32) r 0 (λ z. omega (arith, (f.earlier c j (omega arith) a b).1 big))
          ∙ sym (reach_cell span (at operand j) big)

  reach_few : (j : ℕ) → at first i ≤ j → j < at first (suc i) → depth span (at operand j) ≤ k
  reach_few j a b = go (dec_lt (at operand j) 32)
    where
      go : Dec (at operand j < 32) → depth span (at operand j) ≤ k
      go (yes x) = omega (arith, reach_bit span (at operand j) x, (f.earlier i j l a b).0 x)
      go (no x) = omega (arith, reach_cell span (at operand j) (omega arith), s.most (at operand j - 32) (omega (arith, (f.earlier i j l a b).1 (omega arith))))

  own : at (set span i r) i ≡ r
  own = get_or-set_same span i r 0 (omega arith)

  most_more : (c : ℕ) → Dec (c ≡ i) → c < i + 1 → at (set span i r) c ≤ k
  most_more c (yes e) h = subst (λ x. at (set span i r) x ≤ k) (sym e) (omega (arith, own, t.least k (seen_each first operand i (f.in_rows i l) (λ x. depth span x ≤ k) reach_few)))
  most_more c (no e) h = omega (arith, get_or-set_other span i c r 0 e, s.most c (omega arith))

  above_more : (c j : ℕ) → Dec (c ≡ i) → c < i + 1 → at first c ≤ j → j < at first (suc c) → depth (set span i r) (at operand j) ≤ at (set span i r) c
  above_more c j (yes e) h a b =
      let z : at (set span i r) c ≡ r = ap (at (set span i r)) e ∙ own in
      omega (arith, reach_kept c j (omega arith) a b, seen_all first operand i (f.in_rows i l) (λ x. depth span x ≤ r) t.above j (subst (λ x. at first x ≤ j) e a) (subst (λ x. j < at first (suc x)) e b))
  above_more c j (no e) h a b = omega (arith, reach_kept c j (omega arith) a b, get_or-set_other span i c r 0 e, s.above c j (omega arith) a b)

  pub spans_more : Spans k first operand (set span i r) (i + 1)
  spans_more = record { most = λ c h. most_more c (ℕ_discrete c i) h; above = λ c j h a b. above_more c j (ℕ_discrete c i) h a b }

-- There are at most 24,576 operands: at each clock a node has one cell, so an edge has one operand at each of 24 clocks.
--   few_operands        the cells' widths add up to 24,576 at most
use Prim.Native.Nat.{ℕ, zero, suc, ◌+◌, ◌*◌, ◌-◌, ◌/◌, ◌≤◌, ◌<◌}
use native.Mathlib.Omega.{arith}
use native.Mathlib.Numerals.{add-one}
use native.Mathlib.Decide.{ℕ_discrete, dec_lt}
use mathlib.Core.Path.{◌≡◌, refl, sym, ap, ap₂, ◌∙◌}
use mathlib.Core.Logic.{◌⊎◌, inl, inr, ⊎_elim}
use mathlib.Core.List.{List}
use lib.ListN.{length}
use Rattle.theory.specs.Move.{sum}
use Rattle.graph.specs.Columns.{at}
use Rattle.choose.specs.inner.Numbers.{Arranged, CellNumbered, CellsNumbered}
use Rattle.choose.specs.inner.Sources.{width_at}
use Rattle.theory.proofs.numbers.Sums.{sum_none, sum_more, sum_grows, sum_once}

sum_suc : (f : ℕ → ℕ) (n : ℕ) → sum f (suc n) ≡ sum f n + f n
unfolding sum
sum_suc f n = refl

module _ (lag : ℕ → ℕ) (order begin id code : List ℕ) (edges clocks : ℕ) (o : Arranged order) (low : (v : ℕ) → v < length order → lag v ≤ 24) (few : edges ≤ 1024)
    (n : CellsNumbered lag order clocks 0 id code) (rises : (v : ℕ) → v < length order → at begin v ≤ at begin (v + 1)) (room : at begin (length order) ≤ edges) where
  wide : ℕ → ℕ
  wide v = at begin (v + 1) - at begin v

  total : (m : ℕ) → m ≤ length order → sum wide m ≤ at begin m
  unfolding wide
  total zero h = omega (arith, sum_none wide)
  total (suc m) h = omega (arith, total m (omega arith), sum_suc wide m, rises m h, ap (at begin) (add-one m))

  part : ℕ → ℕ
  part p = sum (λ q. wide (at order q)) p

  part_low : (p : ℕ) → p ≤ length order → part p ≤ 1024
  unfolding part
  part_low p h =
      omega (arith, few, room, total (length order) (omega arith), sum_once (at order) (length order) p (λ q l. o.nodes_only q (omega arith)) (λ q r l m. o.once q r l (omega arith)) wide)

  width_is : (i : ℕ) (h : i < length code) → width_at begin code i ≡ wide (at order (n.each i h).place)
  unfolding wide
  width_is i h =
      let k = n.each i h in
      let d : at code i / 32 ≡ at order k.place = omega (arith, k.coded, k.below, low (at order k.place) (o.nodes_only k.place k.within)) in
      ap (λ v. at begin (v + 1) - at begin v) d

  after : (i : ℕ) (h : i < length code) → sum (width_at begin code) i ≤ (n.each i h).clock * 1024 + part (n.each i h).place
      → sum (width_at begin code) (suc i) ≤ (n.each i h).clock * 1024 + part ((n.each i h).place + 1)
  unfolding part
  after i h w =
      omega (arith, w, sum_suc (width_at begin code) i, width_is i h, sum_more (λ q. wide (at order q)) (n.each i h).place)

  -- The next cell stands at a later clock, or at a later place of the same clock.
  later : (i : ℕ) (h : i < length code) (l : suc i < length code)
      → ((n.each i h).clock < (n.each (suc i) l).clock) ⊎ (((n.each i h).clock ≡ (n.each (suc i) l).clock) × ((n.each i h).place < (n.each (suc i) l).place))
  later i h l = go (dec_lt (n.each i h).clock (n.each (suc i) l).clock) (ℕ_discrete (n.each i h).clock (n.each (suc i) l).clock) (dec_lt (n.each i h).place (n.each (suc i) l).place) (ℕ_discrete (n.each i h).place (n.each (suc i) l).place)
    where
      a : CellNumbered lag order id code clocks 0 i
      a = n.each i h

      b : CellNumbered lag order id code clocks 0 (suc i)
      b = n.each (suc i) l

      no_back : (b.clock < a.clock) ⊎ ((b.clock ≡ a.clock) × (b.place < a.place)) → ⊥
      no_back w =
          let e = a.earlier (at order b.place) b.clock (o.nodes_only b.place b.within) b.below
          (⊎_elim (λ (x : b.clock < a.clock). inl x) (λ (x : (b.clock ≡ a.clock) × (b.place < a.place)). inr (x.0, record { place = b.place; within = x.1; holds = refl })) w) in
          omega (arith, e, b.number)

      go : Dec (a.clock < b.clock) → Dec (a.clock ≡ b.clock) → Dec (a.place < b.place) → Dec (a.place ≡ b.place)
          → (a.clock < b.clock) ⊎ ((a.clock ≡ b.clock) × (a.place < b.place))
      go (yes x) y z u = inl x
      go (no x) (yes y) (yes z) u = inr (y, z)
      go (no x) (yes y) (no z) (yes u) =
          absurd (let q : i ≡ suc i = sym a.number ∙ ap₂ (λ p t. at id (at order p * 32 + t)) u y ∙ b.number in let w : ⊥ = omega arith in w)
      go (no x) (yes y) (no z) (no u) = absurd (no_back (inr (sym y, (let w : b.place < a.place = omega arith in w))))
      go (no x) (no y) z u = absurd (no_back (inl (let w : b.clock < a.clock = omega arith in w)))

  grows : (p q : ℕ) → p ≤ q → part p ≤ part q
  unfolding part
  grows p q l = sum_grows (λ q. wide (at order q)) p q l

  up_to : (i : ℕ) (h : i < length code) → sum (width_at begin code) i ≤ (n.each i h).clock * 1024 + part (n.each i h).place
  up_to zero h = omega (arith, sum_none (width_at begin code))
  up_to (suc i) l =
      let h : i < length code = omega arith in
      let w = after i h (up_to i h) in
      let p = part_low ((n.each i h).place + 1) (let z : (n.each i h).place + 1 ≤ length order = omega (arith, (n.each i h).within) in z) in
      let a = n.each i h in
      let b = n.each (suc i) l in
      ⊎_elim
      (λ (x : (n.each i h).clock < (n.each (suc i) l).clock). (let z : sum (width_at begin code) (suc i) ≤ (n.each (suc i) l).clock * 1024 + part (n.each (suc i) l).place = omega (arith, w, p) in z))
      (λ (x : ((n.each i h).clock ≡ (n.each (suc i) l).clock) × ((n.each i h).place < (n.each (suc i) l).place)).
      (let z : sum (width_at begin code) (suc i) ≤ (n.each (suc i) l).clock * 1024 + part (n.each (suc i) l).place = omega (arith, w, x.0, grows ((n.each i h).place + 1) (n.each (suc i) l).place (omega (arith, x.1))) in z))
      (later i h l)

  pub few_operands : sum (width_at begin code) (length code) ≤ 24576
  few_operands = go (length code) refl
    where
      go : (m : ℕ) → m ≡ length code → sum (width_at begin code) m ≤ 24576
      go zero e = omega (arith, sum_none (width_at begin code))
      go (suc i) e =
          let h : i < length code = omega arith in
          let w = after i h (up_to i h) in
          let k = n.each i h in
          let t : k.clock < 24 = omega (arith, k.below, low (at order k.place) (o.nodes_only k.place k.within)) in
          omega (arith, w, t, part_low (k.place + 1) (let z : k.place + 1 ≤ length order = omega (arith, k.within) in z))

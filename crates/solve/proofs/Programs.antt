-- The program under the new numbers gives the same.
--   mapped_same         what two parts of lists are mapped to, place by place
--   program_wired       what the numbering asks of a program
--   operand_old         an operand of a cell is at the same place of the row of its old number
--   new_program         it is a right program
--   new_levelled        its cells are ordered by level
--   value_same          a cell has the value that it had under its old number
--   new_owes, holds_new, holds_old     the dues ask the same of the same cells
--   new_fillable, fills_new, fills_old     the fillings ask for the same cells
--   solves_old          the best list is the same
-- Why values are the same, by induction on the new number: an operand is a chosen bit, which stays, or a cell, which has a smaller number.
use Prim.Native.Nat.{ℕ, zero, suc, ◌+◌, ◌-◌, ◌^◌, ◌/◌, ◌%◌, ◌≤◌, ◌<◌}
use native.Mathlib.Omega.{arith}
use mathlib.Core.Path.{◌≡◌, refl, sym, ap, ap₂, ◌∙◌}
use Rattle.std.proofs.Common.{Option, Some, None}
use mathlib.Core.Logic.{◌⊎◌, inl, inr, ⊎_elim}
use mathlib.Core.List.{List, ◌∷◌, map}
use lib.ListN.{length, take, drop}
use lib.Seq.{drop-cons}
use Rattle.theory.specs.Gate.{gate}
use Rattle.theory.specs.Move.{digit}
use Rattle.graph.specs.Columns.{at}
use Rattle.search.specs.inner.Program.{Program, look, values_to, value_at, RightProgram, Owes, GivesDues, asked, Fillable, FillsTo, Fulfils, SolvesLists, Levelled}
use Rattle.solve.specs.inner.Parts.{OperandsWired}
use Rattle.solve.specs.inner.Numbers.{Ranked, ins, renumbered, ProgramRenumbered, Redue, refilled, Refill}
use Rattle.search.proofs.Values.{look_bit, look_cell, values_at, value_gate, either, earlier_of}
use Rattle.solve.proofs.Renumbering.{moved_bit, moved_cell, renumbered_room}

mapped_same : (f g : ℕ → ℕ) (xs ys : List ℕ) (n a b : ℕ) → a + n ≤ length xs → b + n ≤ length ys
    → ((t : ℕ) → t < n → f (at xs (a + t)) ≡ g (at ys (b + t))) → map f (take n (drop a xs)) ≡ map g (take n (drop b ys))
mapped_same f g xs ys zero a b h l w = refl
mapped_same f g xs ys (suc n) a b h l w =
    rw (drop-cons xs a 0 (omega arith), drop-cons ys b 0 (omega arith))
    (ap₂ ◌∷◌ (here (w 0 (omega arith)))
    (mapped_same f g xs ys n (suc a) (suc b) (omega arith) (omega arith)
    (λ t m. ap (λ i. f (at xs i)) (let z : suc a + t ≡ a + suc t = omega arith in z) ∙ w (suc t) (omega arith) ∙ ap (λ i. g (at ys i)) (let z : b + suc t ≡ suc b + t = omega arith in z))))
  where
    here : f (at xs (a + 0)) ≡ g (at ys (b + 0)) → f (at xs a) ≡ g (at ys b)
    here q = ap (λ i. f (at xs i)) (let z : a ≡ a + 0 = omega arith in z) ∙ q ∙ ap (λ i. g (at ys i)) (let z : b + 0 ≡ b = omega arith in z)

pub program_wired : {cells k : ℕ} {P : Program} → RightProgram cells k P → OperandsWired cells P.first P.operand
program_wired f = record {
  few_cells = f.few_cells;
  first_rows = f.first_rows;
  rising = f.rising;
  in_rows = f.in_rows;
  earlier = λ i j h a b. ⊎_elim (λ w. omega (arith, f.few_bits)) (λ w. w.1) (either f i j h a b);
}

module _ {cells k : ℕ} {P Q : Program} {id code levels : List ℕ} (f : RightProgram cells k P) (r : Ranked cells k P.first P.operand id code levels)
    (s : ProgramRenumbered cells P id code Q)
    (fits : (i : ℕ) → i < cells → at P.first (suc i) ≤ length Q.operand) where
  cell : (q : ℕ) → q < cells → at code q < cells
  cell q h = r.paired.cell q h

  -- ── A right program ─────────────────────────────────────────────────────────────────────────

  -- The place in the old row.
  old : ℕ → ℕ → ℕ
  old q j = at P.first (at code q) + (j - at Q.first q)

  old_in : (q j : ℕ) → q < cells → at Q.first q ≤ j → j < at Q.first (suc q) → (at P.first (at code q) ≤ old q j) × (old q j < at P.first (suc (at code q)))
  unfolding old
  old_in q j h a b = (omega arith, omega (arith, s.counts q h))

  operand_old : (q j : ℕ) → q < cells → at Q.first q ≤ j → j < at Q.first (suc q) → at Q.operand j ≡ renumbered id (at P.operand (old q j))
  unfolding old
  operand_old q j h a b =
      ap (at Q.operand) (let z : j ≡ at Q.first q + (j - at Q.first q) = omega arith in z) ∙ s.same_operand q (j - at Q.first q) h (omega (arith, s.counts q h))

  new_rows : (q : ℕ) → q < cells → at Q.first (suc q) ≤ length Q.operand
  new_rows q h =
      omega (
        arith,
        s.counts q h,
        renumbered_room s q (length Q.operand) (omega arith) h f.rising r.paired fits,
      )

  new_earlier : (q j : ℕ) → q < cells → at Q.first q ≤ j → j < at Q.first (suc q) → (at Q.operand j < k) ⊎ ((32 ≤ at Q.operand j) × (at Q.operand j < 32 + q))
  new_earlier q j h a b = go (either f (at code q) (old q j) (cell q h) p.0 p.1)
    where
      p : (at P.first (at code q) ≤ old q j) × (old q j < at P.first (suc (at code q)))
      p = old_in q j h a b

      go : (at P.operand (old q j) < k) ⊎ ((32 ≤ at P.operand (old q j)) × (at P.operand (old q j) < 32 + at code q))
          → (at Q.operand j < k) ⊎ ((32 ≤ at Q.operand j) × (at Q.operand j < 32 + q))
      go (inl w) = inl (let z : at Q.operand j < k = omega (arith, operand_old q j h a b, moved_bit id (at P.operand (old q j)) (omega (arith, f.few_bits))) in z)
      go (inr w) =
          let e = operand_old q j h a b ∙ moved_cell id (at P.operand (old q j)) w.0 in
          let l = r.sources (at code q) (old q j) (cell q h) p.0 p.1 w.0 in
          inr (omega (arith, e), omega (arith, e, r.paired.number q h))

  pub new_program : cells ≤ length Q.kind → suc cells ≤ length Q.first → RightProgram cells k Q
  new_program kind_rows first_rows = record {
    few_bits = f.few_bits;
    few_cells = f.few_cells;
    kind_rows = kind_rows;
    first_rows = first_rows;
    gates = λ q h. omega (arith, s.same_kind q h, f.gates (at code q) (cell q h));
    rising = λ q h. omega (arith, s.counts q h);
    few_ins = λ q h. omega (arith, s.counts q h, f.few_ins (at code q) (cell q h));
    selectors = λ q h e. omega (arith, s.counts q h, f.selectors (at code q) (cell q h) (sym (s.same_kind q h) ∙ e));
    in_rows = new_rows;
    earlier = λ q j h a b. earlier_of k (at Q.operand j) q f.few_bits (new_earlier q j h a b);
  }

  new_sees : (m q j : ℕ) → m ≤ k → q < at levels (suc m) → at Q.first q ≤ j → j < at Q.first (suc q) → at Q.operand j < 32 → at Q.operand j < m
  new_sees m q j h l a b w =
      let c : q < cells = omega (arith, r.within (suc m) (omega arith)) in
      let p = old_in q j c a b in
      go c p.0 p.1 (either f (at code q) (old q j) (cell q c) p.0 p.1)
    where
      go : q < cells → at P.first (at code q) ≤ old q j → old q j < at P.first (suc (at code q))
          → (at P.operand (old q j) < k) ⊎ ((32 ≤ at P.operand (old q j)) × (at P.operand (old q j) < 32 + at code q)) → at Q.operand j < m
      go c u v (inl y) =
          let small : at P.operand (old q j) < 32 = omega (arith, f.few_bits) in
          omega (arith, operand_old q j c a b, moved_bit id (at P.operand (old q j)) small, r.sees m q (old q j) h l u v small)
      go c u v (inr y) = absurd (let z : ⊥ = omega (arith, operand_old q j c a b, moved_cell id (at P.operand (old q j)) y.0) in z)

  pub new_levelled : suc k < length levels → Levelled cells k Q levels
  new_levelled rows = record { rows = rows; none = r.none; climbs = r.climbs; whole = r.whole; sees = new_sees }

  -- ── The same values ─────────────────────────────────────────────────────────────────────────

  module _ (c : ℕ) where
    value : ℕ → ℕ
    value i = value_at P k c i

    new_value : ℕ → ℕ
    new_value q = value_at Q k c q

    look_same : (q t : ℕ) → q < cells → t < ins P.first (at code q) → ((p : ℕ) → p < q → new_value p ≡ value (at code p))
        → look k c (values_to Q k c q) (at Q.operand (at Q.first q + t))
        ≡ look k c (values_to P k c (at code q)) (at P.operand (at P.first (at code q) + t))
    unfolding value new_value
    look_same q t h l before =
        ap (look k c (values_to Q k c q)) (s.same_operand q t h l)
        ∙ go (either f (at code q) (at P.first (at code q) + t) (cell q h) (omega arith) (omega arith))
      where
        go : (at P.operand (at P.first (at code q) + t) < k) ⊎ ((32 ≤ at P.operand (at P.first (at code q) + t)) × (at P.operand (at P.first (at code q) + t) < 32 + at code q))
            → look k c (values_to Q k c q) (renumbered id (at P.operand (at P.first (at code q) + t)))
            ≡ look k c (values_to P k c (at code q)) (at P.operand (at P.first (at code q) + t))
        go (inl w) =
            let y = at P.operand (at P.first (at code q) + t) in
            let small : y < 32 = omega (arith, f.few_bits) in
            ap (look k c (values_to Q k c q)) (moved_bit id y small)
            ∙ look_bit k c (values_to Q k c q) y small
            ∙ sym (look_bit k c (values_to P k c (at code q)) y small)
        go (inr w) =
            let y = at P.operand (at P.first (at code q) + t) in
            let n = at id (y - 32) in
            let low : n < q =
            omega (arith, r.sources (at code q) (at P.first (at code q) + t) (cell q h) (omega arith) (omega arith) w.0, r.paired.number q h) in
            ap (look k c (values_to Q k c q)) (moved_cell id y w.0)
            ∙ look_cell k c (values_to Q k c q) (32 + n) (omega arith)
            ∙ ap (at (values_to Q k c q)) (let z : 32 + n - 32 ≡ n = omega arith in z)
            ∙ values_at Q k c q n low
            ∙ before n low
            ∙ ap (value_at P k c) (r.paired.each (y - 32) (omega (arith, cell q h))).1
            ∙ sym (values_at P k c (at code q) (y - 32) (omega arith))
            ∙ sym (look_cell k c (values_to P k c (at code q)) y w.0)

    new_same : (n q : ℕ) → q < n → q < cells → new_value q ≡ value (at code q)
    unfolding value new_value
    new_same zero q l h = absurd (let z : ⊥ = omega arith in z)
    new_same (suc n) q l h =
        let i = at code q in
        let z : at Q.first (suc q) - at Q.first q ≡ ins P.first i = omega (arith, s.counts q h) in
        value_gate Q k c q
        ∙ ap₂ (λ g m. gate g (map (look k c (values_to Q k c q)) (take m (drop (at Q.first q) Q.operand)))) (s.same_kind q h) z
        ∙ ap (gate (at P.kind i))
        (mapped_same (look k c (values_to Q k c q)) (look k c (values_to P k c i)) Q.operand P.operand (ins P.first i) (at Q.first q) (at P.first i)
        (omega (arith, s.counts q h, new_rows q h)) (omega (arith, f.rising i (cell q h), f.in_rows i (cell q h)))
        (λ t m. look_same q t h m (λ p o. new_same n p (omega arith) (omega arith))))
        ∙ sym (value_gate P k c i)

    value_same : (i : ℕ) → i < cells → value_at Q k c (at id i) ≡ value_at P k c i
    unfolding value new_value
    value_same i h =
        let e = r.paired.each i h in
        new_same (suc (at id i)) (at id i) (omega arith) e.0 ∙ ap (value_at P k c) e.1

  -- ── The same fillings ───────────────────────────────────────────────────────────────────────

  module _ {fill : List (Option ℕ)} (fills : List (Option ℕ)) (a : Fillable cells k fill) (q : Refill id fill fills) (same : length fills ≡ length fill) where
    -- A cell that asks for a filling now is one that did, under its new number.
    record Before (x j : ℕ) : Type 0 where
      pub cell : ℕ
      pub asks : asked fill x ≡ Some cell
      pub is : j ≡ at id cell

    before_of : (x j : ℕ) → asked fills x ≡ Some j → Before x j
    before_of x j e = go (asked fill x) refl
      where
        go : (place : Option ℕ) → asked fill x ≡ place → Before x j
        go (Some i) z = let y : Some j ≡ Some (at id i) = sym e ∙ q x ∙ ap (refilled id) z in record { cell = i; asks = z; is = cc }
        go None z = absurd (let y : Some j ≡ None = sym e ∙ q x ∙ ap (refilled id) z in cc)

    pub new_fillable : Fillable cells k fills
    new_fillable = record { few = omega (arith, a.few); cell = λ x j e. let b = before_of x j e in omega (arith, b.is, (r.paired.each b.cell (a.cell x b.cell b.asks)).0) }

    fills_old : (c : ℕ) → FillsTo k Q fills c → FillsTo k P fill c
    fills_old c w x i e =
        ap (λ n. digit (n + k) c x) (sym same) ∙ w x (at id i) (q x ∙ ap (refilled id) e) ∙ value_same (c % 2 ^ k) i (a.cell x i e)

    fills_new : (c : ℕ) → FillsTo k P fill c → FillsTo k Q fills c
    fills_new c w x j e =
        let b = before_of x j e in
        ap (λ n. digit (n + k) c x) same ∙ w x b.cell b.asks ∙ sym (value_same (c % 2 ^ k) b.cell (a.cell x b.cell b.asks)) ∙ ap (value_at Q k (c % 2 ^ k)) (sym b.is)

  -- ── The same dues ───────────────────────────────────────────────────────────────────────────

  module _ {due begin : List ℕ} {edges : ℕ} (dues : List ℕ) (o : Owes cells due begin edges) (d : Redue id (at begin edges) due dues) where
    due_cell : (x : ℕ) → x < at begin edges → at dues x / 2 ≡ at id (at due x / 2)
    due_cell x h = omega (arith, d x h)

    due_bit : (x : ℕ) → x < at begin edges → at dues x % 2 ≡ at due x % 2
    due_bit x h = omega (arith, d x h)

    pub new_owes : at begin edges ≤ length dues → Owes cells dues begin edges
    new_owes rows = record {
      begin_rows = o.begin_rows;
      due_rows = rows;
      few = o.few;
      none = o.none;
      rising = o.rising;
      cell = λ x h. omega (arith, due_cell x h, r.paired.each (at due x / 2) (o.cell x h));
    }

    value_due : (c x : ℕ) → x < at begin edges → value_at Q k c (at dues x / 2) ≡ value_at P k c (at due x / 2)
    value_due c x h = ap (value_at Q k c) (due_cell x h) ∙ value_same c (at due x / 2) (o.cell x h)

    holds_old : (c : ℕ) → GivesDues k Q dues (at begin edges) c → GivesDues k P due (at begin edges) c
    holds_old c w x h = sym (due_bit x h) ∙ w x h ∙ value_due c x h

    holds_new : (c : ℕ) → GivesDues k P due (at begin edges) c → GivesDues k Q dues (at begin edges) c
    holds_new c w x h = due_bit x h ∙ w x h ∙ sym (value_due c x h)

    module _ {fill : List (Option ℕ)} (fills : List (Option ℕ)) (a : Fillable cells k fill) (r' : Refill id fill fills) (same : length fills ≡ length fill) where
      fulfils : (c : ℕ) → Fulfils k P due (at begin edges) fill c → Fulfils k Q dues (at begin edges) fills c
      fulfils c v = (holds_new (c % 2 ^ k) v.0, fills_new fills a r' same c v.1)

      pub solves_old : (c : Option ℕ) → SolvesLists k Q dues (at begin edges) fills c → SolvesLists k P due (at begin edges) fill c
      solves_old (Some c) w = (rw (← same) w.0, (holds_old (c % 2 ^ k) w.1.0, fills_old fills a r' same c w.1.1), λ e l p v. w.2 e (rw same l) p (fulfils e v))
      solves_old None w = λ e l v. w e (rw same l) (fulfils e v)

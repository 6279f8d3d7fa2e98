-- New numbers, cell by cell.
--   layered             the spans are levels
--   numbered_room       while a cell has no number, fewer are given than there are cells
--   numbered_push       one number more: for a cell of level m, after all that it needs
--   numbered_all        when every cell has a number, there are as many numbers as cells
--   numbered_ready      nothing is missing that a cell needs
use Prim.Native.Nat.{ℕ, zero, suc, ◌+◌, ◌-◌, ◌≤◌, ◌<◌}
use native.Mathlib.Omega.{arith}
use native.Mathlib.Decide.{ℕ_discrete, dec_lt}
use mathlib.Core.Path.{◌≡◌, sym, subst, ap, ◌∙◌}
use Rattle.std.proofs.Common.{None}
use mathlib.Core.List.{List, [], ◌∷◌, ◌++◌}
use lib.ListN.{length, set, length-set, length-append, get_or-append}
use lib.Seq.{get_or_at, get_or-set_same, get_or-set_other}
use Rattle.theory.proofs.numbers.Pigeon.{no_injection, cons}
use Rattle.graph.specs.Columns.{at}
use Rattle.solve.specs.inner.Parts.{OperandsWired, Spans}
use Rattle.solve.specs.inner.Numbers.{Layers, layers_of, Layered, Missing, Numbered}
use Rattle.solve.proofs.Spanning.{reach_cell}

pub layered : {cells k : ℕ} {first operand span : List ℕ} → OperandsWired cells first operand → cells ≤ length span
    → Spans k first operand span cells → Layered (layers_of cells first operand span)
layered {cells} {k} {first} {operand} {span} w rows s = record {
  wired = w;
  span_rows = rows;
  above = λ i j h a b big. omega (arith, s.above i j h a b, reach_cell span (at operand j) big);
}

-- ── One number more ─────────────────────────────────────────────────────────────────────────

module _ {L : Layers} {m n : ℕ} {id code : List ℕ} (few : L.cells ≤ 12288) (s : Numbered L m n id code) where
  -- The cells of the numbers and this one are all different.
  pub numbered_room : (i : ℕ) → i < L.cells → at id i ≡ 12288 → n < L.cells
  numbered_room i h e = go (dec_lt n L.cells)
    where
      f : ℕ → ℕ
      f = cons i (at code)

      low : n ≡ L.cells → (q : ℕ) → q ≤ L.cells → f q < L.cells
      low z zero l = h
      low z (suc q) l = s.cell q (omega arith)

      differ : n ≡ L.cells → (p q : ℕ) → p < q → q ≤ L.cells → ¬ (f p ≡ f q)
      differ z p zero l b w = omega arith
      differ z zero (suc q) l b w = omega (arith, ap (at id) w ∙ s.number q (omega arith))
      differ z (suc p) (suc q) l b w =
          let y : p ≡ q = sym (s.number p (omega arith)) ∙ ap (at id) w ∙ s.number q (omega arith) in
          omega arith

      go : Dec (n < L.cells) → n < L.cells
      go (yes w) = w
      go (no w) =
          let z : n ≡ L.cells = omega (arith, s.few) in
          absurd (no_injection L.cells f (low z) (differ z))

  -- Every cell has a number: then there are as many numbers as cells.
  pub numbered_all : ((i : ℕ) → i < L.cells → at id i < n) → n ≡ L.cells
  numbered_all all = go (dec_lt n L.cells)
    where
      back : (i : ℕ) → i < L.cells → at code (at id i) ≡ i
      back i h = (s.each i h (λ e. omega (arith, all i h, s.few))).1

      go : Dec (n < L.cells) → n ≡ L.cells
      go (yes w) =
          absurd (no_injection n (at id) (λ i h. all i (omega arith))
          (λ i j l h e. (let z : i ≡ j = sym (back i (omega arith)) ∙ ap (at code) e ∙ back j (omega arith) in let y : ⊥ = omega arith in y)))
      go (no w) = omega (arith, s.few)

  -- A cell's number is given already, or is none.
  pub numbered_given : (i : ℕ) → i < L.cells → ¬ (at id i ≡ 12288) → at id i < n
  numbered_given i h o = (s.each i h o).0

  module _ {i : ℕ} (w : OperandsWired L.cells L.first L.operand) (h : i < L.cells) (own : at L.span i ≡ m) (free : at id i ≡ 12288)
      (ready : (j : ℕ) → at L.first i ≤ j → j < at L.first (suc i) → 32 ≤ at L.operand j → at id (at L.operand j - 32) < n) where
    room : n < L.cells
    room = numbered_room i h free

    id_here : at (set id i n) i ≡ n
    id_here = get_or-set_same id i n 0 (omega (arith, s.id_rows))

    id_other : (j : ℕ) → ¬ (j ≡ i) → at (set id i n) j ≡ at id j
    id_other j o = get_or-set_other id i j n 0 o

    code_here : at (code ++ i ∷ []) n ≡ i
    code_here = get_or_at code i [] 0 n s.code_rows

    code_other : (q : ℕ) → q < n → at (code ++ i ∷ []) q ≡ at code q
    code_other q l = get_or-append code (i ∷ []) 0 q (omega (arith, s.code_rows))

    -- What has a number is not this cell.
    not_this : (j : ℕ) → at id j < n → ¬ (j ≡ i)
    not_this j l e = omega (arith, ap (at id) e, s.few)

    cell_more : (q : ℕ) → Dec (q ≡ n) → q < n + 1 → at (code ++ i ∷ []) q < L.cells
    cell_more q (yes e) l = omega (arith, ap (at (code ++ i ∷ [])) e ∙ code_here)
    cell_more q (no e) l = omega (arith, code_other q (omega arith), s.cell q (omega arith))

    number_more : (q : ℕ) → Dec (q ≡ n) → q < n + 1 → at (set id i n) (at (code ++ i ∷ []) q) ≡ q
    number_more q (yes e) l = ap (at (set id i n)) (ap (at (code ++ i ∷ [])) e ∙ code_here) ∙ id_here ∙ sym e
    number_more q (no e) l =
        let b = s.number q (omega arith) in
        ap (at (set id i n)) (code_other q (omega arith)) ∙ id_other (at code q) (not_this (at code q) (omega (arith, b))) ∙ b

    each_more : (j : ℕ) → Dec (j ≡ i) → j < L.cells → ¬ (at (set id i n) j ≡ 12288) → (at (set id i n) j < n + 1) × (at (code ++ i ∷ []) (at (set id i n) j) ≡ j)
    each_more j (yes e) l o =
        let z = ap (at (set id i n)) e ∙ id_here in
        (omega (arith, z), ap (at (code ++ i ∷ [])) z ∙ code_here ∙ sym e)
    each_more j (no e) l o =
        let z = id_other j e in
        let g = s.each j l (λ y. o (z ∙ y)) in
        (omega (arith, z, g.0), ap (at (code ++ i ∷ [])) z ∙ code_other (at id j) g.0 ∙ g.1)

    sources_more : (c j : ℕ) → Dec (c ≡ i) → c < L.cells → at (set id i n) c < n + 1 → at L.first c ≤ j → j < at L.first (suc c) → 32 ≤ at L.operand j
        → at (set id i n) (at L.operand j - 32) < at (set id i n) c
    sources_more c j (yes e) l o a b big =
        let x = at L.operand j - 32 in
        let g = ready j (subst (λ v. at L.first v ≤ j) e a) (subst (λ v. j < at L.first (suc v)) e b) big in
        omega (arith, id_other x (not_this x g), ap (at (set id i n)) e ∙ id_here)
    sources_more c j (no e) l o a b big =
        let x = at L.operand j - 32 in
        let z = id_other c e in
        let y : at id c < n = numbered_given c l (λ v. omega (arith, room)) in
        let g = s.sources c j l y a b big in
        omega (arith, z, id_other x (not_this x (omega arith)))

    lower_more : (c : ℕ) → Dec (c ≡ i) → c < L.cells → at L.span c < m → at (set id i n) c < n + 1
    lower_more c (yes e) l o = omega (arith, ap (at (set id i n)) e ∙ id_here)
    lower_more c (no e) l o = omega (arith, id_other c e, s.lower c l o)

    level_more : (q : ℕ) → Dec (q ≡ n) → q < n + 1 → at L.span (at (code ++ i ∷ []) q) ≤ m
    level_more q (yes e) l = omega (arith, ap (at L.span) (ap (at (code ++ i ∷ [])) e ∙ code_here))
    level_more q (no e) l = omega (arith, ap (at L.span) (code_other q (omega arith)), s.level q (omega arith))

    numbered_more : Numbered L m (n + 1) (set id i n) (code ++ i ∷ [])
    numbered_more = record {
      few = omega (arith, room);
      id_rows = omega (arith, length-set id i n, s.id_rows);
      code_rows = simp length-append (omega (arith, s.code_rows));
      cell = λ q l. cell_more q (ℕ_discrete q n) l;
      number = λ q l. number_more q (ℕ_discrete q n) l;
      each = λ j l o. each_more j (ℕ_discrete j i) l o;
      sources = λ c j l o a b big. sources_more c j (ℕ_discrete c i) l o a b big;
      lower = λ c l o. lower_more c (ℕ_discrete c i) l o;
      level = λ q l. level_more q (ℕ_discrete q n) l;
    }

    -- As it is pushed.
    pub numbered_push : {r : ℕ} {after : List ℕ} → r ≡ n → after ≡ code ++ i ∷ [] → Numbered L m (length after) (set id i r) after
    numbered_push e w = rw (e, w) (subst (λ k. Numbered L m k (set id i n) (code ++ i ∷ [])) (sym numbered_more.code_rows) numbered_more)

  -- Cells of lower levels have their numbers, and of this one none is missing.
  pub numbered_ready : {i : ℕ} → Layered L → i < L.cells → at L.span i ≡ m → Missing L id i None
      → (j : ℕ) → at L.first i ≤ j → j < at L.first (suc i) → 32 ≤ at L.operand j → at id (at L.operand j - 32) < n
  numbered_ready {i} v h own g j a b big =
      let x = at L.operand j - 32 in
      let l : x < L.cells = omega (arith, v.wired.earlier i j h a b) in
      go l (ℕ_discrete (at L.span x) (at L.span i))
    where
      go : at L.operand j - 32 < L.cells → Dec (at L.span (at L.operand j - 32) ≡ at L.span i) → at id (at L.operand j - 32) < n
      go l (yes e) = numbered_given (at L.operand j - 32) l (g j a b big e)
      go l (no e) = s.lower (at L.operand j - 32) l (omega (arith, v.above i j h a b big))

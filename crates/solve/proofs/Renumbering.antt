-- The program copied under the new numbers.
--   moved_bit, moved_cell      an operand that is a chosen bit, and one that is a cell
--   redue_cut                  the dues are a part of their list
--   renumberable               the operands of a cell have numbers
--   renumbered_room            there is room for the operands of the next cell
--   renumbered_more            one cell more
--   renumbered_cut             the kinds are a part of their list
use Prim.Native.Nat.{ℕ, zero, suc, ◌+◌, ◌-◌, ◌*◌, ◌/◌, ◌%◌, ◌≤◌, ◌<◌}
use native.Mathlib.Omega.{arith}
use native.Mathlib.Decide.{ℕ_discrete, dec_lt}
use mathlib.Core.Path.{◌≡◌, sym, subst, ap, ◌∙◌}
use mathlib.Core.List.{List}
use borrow.Author.Tests.{lt-ltb, le-ltb}
use lib.ListN.{length, take, set, length-take}
use lib.Seq.{get_or-take, get_or-set_same, get_or-set_other}
use Rattle.std.specs.Prelude.{Option, None}
use Rattle.std.proofs.lemmas.List.{length-take-le, get_or_past}
use Rattle.graph.specs.Columns.{at}
use Rattle.theory.specs.Move.{sum}
use Rattle.theory.proofs.numbers.Sums.{sum_once}
use Rattle.search.specs.inner.Program.{Program, program_of, operands_of, asked}
use Rattle.search.proofs.Putting.{climb}
use Rattle.search.proofs.Parts.{put_before, put_within}
use borrow.Rule.Slice.PartMut.{put_mid}
use Rattle.solve.specs.inner.Parts.{OperandsWired}
use Rattle.solve.specs.inner.Numbers.{Paired, ins, renumbered, Renumberable, ProgramRenumbered, Redue, refilled, Refill}
use Rattle.solve.proofs.Spanning.{seen_length, seen_at, seen_each}

-- ── Operands and dues, one by one ───────────────────────────────────────────────────────────

pub moved_bit : (id : List ℕ) (x : ℕ) → x < 32 → renumbered id x ≡ x
unfolding renumbered
moved_bit id x h = rw (lt-ltb x 32 h)

pub moved_cell : (id : List ℕ) (x : ℕ) → 32 ≤ x → renumbered id x ≡ 32 + at id (x - 32)
unfolding renumbered
moved_cell id x h = rw (le-ltb x 32 h)

-- What is due stands in the first n places.
pub redue_cut : (id due dues : List ℕ) (n : ℕ) → n ≤ length due → Redue id (length (take n due)) (take n due) dues → Redue id n due dues
redue_cut id due dues n h d x l =
    d x (omega (arith, length-take n due)) ∙ ap (λ y. at id (y / 2) * 2 + y % 2) (get_or-take n due x 0 l)

-- What asks for a filling stands in the first places.
pub refill_cut : (id : List ℕ) (fill fills : List (Option ℕ)) → length fill ≤ length fills → Refill id fill fills → Refill id fill (take (length fill) fills)
refill_cut id fill fills h r x = go (dec_lt x (length fill))
  where
    go : Dec (x < length fill) → asked (take (length fill) fills) x ≡ refilled id (asked fill x)
    go (yes l) = get_or-take (length fill) fills x None l ∙ r x
    go (no l) =
        get_or_past (take (length fill) fills) x None (omega (arith, length-take-le (length fill) fills h))
        ∙ ap (refilled id) (sym (get_or_past fill x None (omega arith)))

-- ── Cells, one by one ───────────────────────────────────────────────────────────────────────

-- The operands of a cell have numbers.
pub renumberable : {cells : ℕ} {first operand id code : List ℕ} → OperandsWired cells first operand → Paired cells id code
    → (i : ℕ) → i < cells → (t : ℕ) → t < length (operands_of first operand i) → Renumberable id (at (operands_of first operand i) t)
renumberable {cells} {first} {operand} {id} w pair i h =
    seen_each first operand i (w.in_rows i h) (Renumberable id) (λ j a b big. (
    let l : at operand j - 32 < cells = omega (arith, w.earlier i j h a b) in
    (omega (arith, pair.id_rows), omega (arith, pair.each (at operand j - 32) l, w.few_cells))
    ))

module _ {n : ℕ} {P Q : Program} {id code : List ℕ} (s : ProgramRenumbered n P id code Q) where
  rises : (a b : ℕ) → a ≤ b → b ≤ n → at Q.first a ≤ at Q.first b
  rises = climb Q.first n (λ q h. omega (arith, s.counts q h))

  starts : (q : ℕ) → q ≤ n → at Q.first q ≡ sum (λ p. ins P.first (at code p)) q
  unfolding sum
  starts zero h = s.none
  starts (suc q) h = omega (arith, s.counts q (omega arith), starts q (omega arith))

  -- The operands of different cells are no more than those of all.
  pub renumbered_room : {cells : ℕ} (q room : ℕ) → q ≤ n → q < cells → ((i : ℕ) → i < cells → at P.first i ≤ at P.first (suc i)) → Paired cells id code
      → ((i : ℕ) → i < cells → at P.first (suc i) ≤ room) → at Q.first q + ins P.first (at code q) ≤ room
  unfolding sum
  renumbered_room {cells} q room g h rising pair fits =
      let last : suc (cells - 1) ≡ cells = omega arith in
      omega (
        arith,
        starts q g,
        sum_once (at code) cells (suc q) (λ p l. pair.cell p (omega arith)) differ (ins P.first),
        total cells (omega arith),
        ap (at P.first) last,
        fits (cells - 1) (omega arith),
      )
    where
      differ : (a b : ℕ) → a < b → b < suc q → ¬ (at code a ≡ at code b)
      differ a b l o e =
          let z : a ≡ b = sym (pair.number a (omega arith)) ∙ ap (at id) e ∙ pair.number b (omega arith) in
          omega arith

      total : (m : ℕ) → m ≤ cells → sum (ins P.first) m ≤ at P.first m
      total zero l = omega arith
      total (suc m) l = omega (arith, total m (omega arith), rising m l)

  module _ (r : ℕ) (own : List ℕ) (kind-room : n < length Q.kind) (first-room : n + 1 < length Q.first) (in_rows : at P.first (suc (at code n)) ≤ length P.operand)
      (e : r ≡ at Q.first n + ins P.first (at code n)) (fits : r ≤ length Q.operand) (size : length own ≡ ins P.first (at code n))
      (put : (t : ℕ) → t < ins P.first (at code n) → at own t ≡ renumbered id (at (operands_of P.first P.operand (at code n)) t)) where
    abbrev next : List ℕ
    next = put_mid (at Q.first n) (ins P.first (at code n)) Q.operand own

    first_old : (q : ℕ) → q ≤ n → at (set Q.first (n + 1) r) q ≡ at Q.first q
    first_old q h = get_or-set_other Q.first (n + 1) q r 0 (λ z. omega arith)

    first_new : (q : ℕ) → q ≡ n → at (set Q.first (n + 1) r) (suc q) ≡ r
    first_new q z = ap (at (set Q.first (n + 1) r)) (let y : suc q ≡ n + 1 = omega arith in y) ∙ get_or-set_same Q.first (n + 1) r 0 first-room

    kind_more : (q : ℕ) → q < n + 1 → Dec (q ≡ n) → at (set Q.kind n (at P.kind (at code n))) q ≡ at P.kind (at code q)
    kind_more q h (yes z) =
        ap (at (set Q.kind n (at P.kind (at code n)))) z ∙ get_or-set_same Q.kind n (at P.kind (at code n)) 0 kind-room ∙ ap (λ p. at P.kind (at code p)) (sym z)
    kind_more q h (no z) = get_or-set_other Q.kind n q (at P.kind (at code n)) 0 z ∙ s.same_kind q (omega arith)

    counts_more : (q : ℕ) → q < n + 1 → Dec (q ≡ n) → at (set Q.first (n + 1) r) (suc q) ≡ at (set Q.first (n + 1) r) q + ins P.first (at code q)
    counts_more q h (yes z) = omega (arith, first_new q z, first_old q (omega arith), ap (at Q.first) z, ap (λ p. ins P.first (at code p)) z)
    counts_more q h (no z) = omega (arith, first_old q (omega arith), first_old (suc q) (omega arith), s.counts q (omega arith))

    operand_more : (q j : ℕ) → q < n + 1 → j < ins P.first (at code q) → Dec (q ≡ n)
        → at next (at (set Q.first (n + 1) r) q + j) ≡ renumbered id (at P.operand (at P.first (at code q) + j))
    operand_more q j h l (yes z) =
        let w : j < ins P.first (at code n) = subst (λ p. j < ins P.first (at code p)) z l in
        ap (λ p. at next (p + j)) (first_old q (omega arith) ∙ ap (at Q.first) z)
        ∙ put_within (at Q.first n) (ins P.first (at code n)) Q.operand own size (omega arith) (at Q.first n + j) (omega arith) (omega arith)
        ∙ ap (at own) (let y : at Q.first n + j - at Q.first n ≡ j = omega arith in y)
        ∙ put j w
        ∙ ap (renumbered id) (seen_at P.first P.operand (at code n) in_rows j (omega (arith, seen_length P.first P.operand (at code n) in_rows)))
        ∙ ap (λ p. renumbered id (at P.operand (at P.first (at code p) + j))) (sym z)
    operand_more q j h l (no z) =
        let b : at Q.first q + j < at Q.first n = omega (arith, s.counts q (omega arith), rises (suc q) n (omega arith) (omega arith)) in
        ap (λ p. at next (p + j)) (first_old q (omega arith))
        ∙ put_before (at Q.first n) (ins P.first (at code n)) Q.operand own size (omega arith) (at Q.first q + j) b ∙ s.same_operand q j (omega arith) l

    pub renumbered_more : ProgramRenumbered (n + 1) P id code (program_of (set Q.kind n (at P.kind (at code n))) (set Q.first (n + 1) r) next)
    renumbered_more = record {
      none = first_old 0 (omega arith) ∙ s.none;
      same_kind = λ q h. kind_more q h (ℕ_discrete q n);
      counts = λ q h. counts_more q h (ℕ_discrete q n);
      same_operand = λ q j h l. operand_more q j h l (ℕ_discrete q n);
    }

pub renumbered_cut : {n : ℕ} {P : Program} {id code kind first operand : List ℕ} → ProgramRenumbered n P id code (program_of kind first operand)
    → ProgramRenumbered n P id code (program_of (take n kind) first operand)
renumbered_cut {n} {kind = kind} s = record { none = s.none; same_kind = λ q h. get_or-take n kind q 0 h ∙ s.same_kind q h; counts = s.counts; same_operand = s.same_operand }

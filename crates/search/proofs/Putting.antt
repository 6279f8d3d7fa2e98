-- The loops that put levels, dues and rows.
--   climb               a column that rises from place to place rises over more
--   level_put           the cells of one level more have their levels
--   ends_put            a row put behind rows that end
--   rows_next           the dues of one row more
--   rows_room           there is room for it, as there is for all
--   Ranking             the dues of the levels below m are in their rows
--   ranking_start, ranking_turn     of no level; one level further
--   ranking_small, ranking_room     they are at most all dues, also with those of the next level
--   ranking_whole, ranking_rows, ranking_same      after the last level
use Prim.Native.Nat.{ℕ, zero, suc, ◌+◌, ◌-◌, ◌/◌, ◌≤◌, ◌<◌}
use native.Mathlib.Omega.{arith}
use native.Mathlib.Decide.{ℕ_discrete, dec_lt}
use native.Mathlib.Numerals.{add-one}
use mathlib.Core.Path.{◌≡◌, sym, subst, ap, ◌∙◌}
use mathlib.Core.List.{List, [], ◌++◌}
use lib.ListN.{length, take, set, replicate, length-append, length-set}
use lib.Seq.{take-add, get_or-set_same}
use borrow.Rule.Slice.PartMut.{put_mid}
use Rattle.std.proofs.lemmas.List.{length-replicate, get_or-replicate, take-take}
use Rattle.graph.specs.Columns.{at}
use Rattle.graph.specs.inner.Sort.{Stands}
use Rattle.graph.proofs.Fills.{fill_with}
use Rattle.gates.specs.inner.Gates.{part}
use Rattle.gates.proofs.Words.{part_length, part_at}
use Rattle.search.specs.inner.Program.{rows_of, total_of, Owes}
use Rattle.search.specs.inner.Rows.{Level, of_level, RowsEnd, Rows, SameDues}
use Rattle.search.proofs.Parts.{put_before, put_within}
use Rattle.search.proofs.Dues.{level_append, level_front, ranked, ranked_none, ranked_more, ranked_room, ranked_place, ranked_grows, ranked_first, ranked_holds}

-- ── Columns ─────────────────────────────────────────────────────────────────────────────────

pub climb : (levels : List ℕ) (many : ℕ) → ((m : ℕ) → m < many → at levels m ≤ at levels (suc m)) → (a b : ℕ) → a ≤ b → b ≤ many → at levels a ≤ at levels b
climb levels many up a zero h l = let e : a ≡ 0 = omega arith in rw e (omega arith)
climb levels many up a (suc b) h l = go (λ q. climb levels many up a b q (omega arith)) (ℕ_discrete a (suc b))
  where
    go : (a ≤ b → at levels a ≤ at levels b) → Dec (a ≡ suc b) → at levels a ≤ at levels (suc b)
    go before (yes e) = rw e (omega arith)
    go before (no e) = omega (arith, before (omega arith), up b l)

-- The cells of level m, after those of the lower ones.
pub level_put : (levels : List ℕ) (many m : ℕ) (level : List ℕ) {part : List ℕ} → at levels m ≤ at levels (m + 1) → at levels (m + 1) ≤ length level → m < many
    → ((j : ℕ) → j < at levels m → Level levels many j (at level j)) → part ≡ replicate (at levels (m + 1) - at levels m) m
    → (j : ℕ) → j < at levels (m + 1) → Level levels many j (at (put_mid (at levels m) (at levels (m + 1) - at levels m) level part) j)
level_put levels many m level {part} up fits few low is j h = go (dec_lt j lo)
  where
    lo : ℕ
    lo = at levels m

    n : ℕ
    n = at levels (m + 1) - at levels m

    size : length part ≡ n
    size = ap length is ∙ length-replicate n m

    go : Dec (j < lo) → Level levels many j (at (put_mid lo n level part) j)
    go (yes l) = subst (Level levels many j) (sym (put_before lo n level part size (omega arith) j l)) (low j l)
    go (no l) =
        subst (Level levels many j)
        (sym (put_within lo n level part size (omega arith) j (omega arith) (omega arith) ∙ ap (λ l. at l (j - lo)) is ∙ get_or-replicate n (j - lo) m 0 (omega arith)))
        (record { from = omega arith; below = (rw (add-one m) at h); few = few })

-- ── Rows ────────────────────────────────────────────────────────────────────────────────────

pub ends_put : (left own : List ℕ) (a n : ℕ) → RowsEnd left 0 a → length own ≡ n → a + n ≤ length left → ((d : ℕ) → d < n → d + at own d ≡ n)
    → RowsEnd (put_mid a n left own) 0 (a + n)
ends_put left own a n old size fits own_left d h l = go (dec_lt d a)
  where
    go : Dec (d < a) → (1 ≤ at (put_mid a n left own) d) × (d + at (put_mid a n left own) d ≤ a + n)
    go (yes q) = let e = put_before a n left own size fits d q in let w = old d h q in (omega (arith, e, w.0), omega (arith, e, w.1))
    go (no q) =
        let e = put_within a n left own size fits d (omega arith) l in
        let w = own_left (d - a) (omega arith) in
        (omega (arith, e, w), omega (arith, e, w))

-- The rows of one level, edge by edge.
module _ {cells : ℕ} {due begin : List ℕ} (o : Owes cells due begin (rows_of begin)) (e : ℕ) (l : e < rows_of begin) where
  pub row_part : (at begin e ≤ at begin (suc e)) × (at begin (suc e) ≤ total_of begin) × (at begin (suc e) ≤ at begin e + 24)
  row_part =
      let r = o.rising e l in
      (r.0, climb begin (rows_of begin) (λ m h. (o.rising m h).0) (suc e) (rows_of begin) l (omega arith), r.1)

  pub row_size : length (part due (at begin e) (at begin (suc e))) ≤ 24
  row_size = omega (arith, row_part.2, part_length due (at begin e) (at begin (suc e)) (omega (arith, row_part.1, o.due_rows)))

  -- What is due of each due is of each of a row.
  pub row_asks : (n : ℕ) → cells ≤ n → (x : ℕ) → x < length (part due (at begin e) (at begin (suc e))) → at (part due (at begin e) (at begin (suc e))) x / 2 < n
  row_asks n few x h =
      let a = at begin e in
      let b = at begin (suc e) in
      let q : x < b - a = omega (arith, part_length due a b (omega (arith, row_part.1, o.due_rows))) in
      rw (part_at due a b x q) (omega (arith, o.cell (a + x) (omega (arith, row_part.1))))

  module _ (level : List ℕ) (m : ℕ) where
    pub rows_next : of_level level m (take (at begin (e + 1)) due) ≡ of_level level m (take (at begin e) due) ++ of_level level m (part due (at begin e) (at begin (suc e)))
    rows_next =
        let z : at begin (suc e) ≡ at begin e + (at begin (suc e) - at begin e) = omega (arith, row_part.0) in
        rw (add-one e) (ap (λ n. of_level level m (take n due)) z ∙ ap (of_level level m) (take-add (at begin e) (at begin (suc e) - at begin e) due)
        ∙ level_append level m (take (at begin e) due) (part due (at begin e) (at begin (suc e))))

    pub rows_room : length (of_level level m (take (at begin e) due)) + length (of_level level m (part due (at begin e) (at begin (suc e)))) ≤ length (of_level level m (take (total_of begin) due))
    rows_room =
        let f = level_front level m (take (total_of begin) due) (at begin (e + 1)) in
        let q : at begin (e + 1) ≤ total_of begin = rw (add-one e) row_part.1 in
        omega (arith, ap (λ l. length (of_level level m l)) (take-take (at begin (e + 1)) (total_of begin) due q), f, simp length-append at (ap length rows_next))

-- ── Level by level ──────────────────────────────────────────────────────────────────────────

pub record Ranking (level due : List ℕ) (total : ℕ) (row rows : List ℕ) (m : ℕ) : Type 0 where
  pub written : row ≡ ranked level due total m
  pub rows_size : length rows ≡ 26
  pub begins : (j : ℕ) → j < m → at rows j ≡ length (ranked level due total j)

pub ranking_start : {level due : List ℕ} {total : ℕ} {row rows : List ℕ} → row ≡ [] → length rows ≡ 26 → Ranking level due total row rows 0
ranking_start {level} {due} {total} none size = record { written = none ∙ sym (ranked_none level due total); rows_size = size; begins = λ j h. absurd (let z : ⊥ = omega arith in z) }

module _ {level due : List ℕ} {total many : ℕ} {row rows : List ℕ} {m : ℕ}
    (s : Ranking level due total row rows m) (fits : total ≤ length due) (low : m ≤ many) (more : many < 26) where
  size : length row ≡ length (ranked level due total m)
  size = ap length s.written

  pub ranking_small : length row ≤ total
  ranking_small = omega (arith, size, ranked_room level due total fits m)

  pub ranking_room : length row + length (of_level level m (take total due)) ≤ total
  ranking_room = omega (arith, size, ranked_room level due total fits (suc m), simp length-append at (ap length (ranked_more level due total fits m)))

  begins_more : (j : ℕ) → j < m + 1 → at (set rows m (length row)) j ≡ length (ranked level due total j)
  begins_more = fill_with (λ j v. v ≡ length (ranked level due total j)) rows m (length row) (omega (arith, s.rows_size)) size s.begins

  pub ranking_turn : {after : List ℕ} → m < many → after ≡ row ++ of_level level m (take total due) → Ranking level due total after (set rows m (length row)) (m + 1)
  ranking_turn {after} l e = record {
    written = e ∙ ap (λ xs. xs ++ of_level level m (take total due)) s.written ∙ sym (ranked_more level due total fits m) ∙ ap (ranked level due total) (sym (add-one m));
    rows_size = length-set rows m (length row) ∙ s.rows_size;
    begins = begins_more;
  }

  module _ (e : m ≡ many) where
    pub ranking_whole : at (set rows many (length row)) many ≡ length row
    ranking_whole = get_or-set_same rows many (length row) 0 (omega (arith, s.rows_size))

    begin_at : (j : ℕ) → j ≤ many → at (set rows many (length row)) j ≡ length (ranked level due total j)
    begin_at j h = subst (λ x. at (set rows x (length row)) j ≡ length (ranked level due total j)) e (begins_more j (omega arith))

    pub ranking_rows : {left : List ℕ} → RowsEnd left 0 (length row) → Rows many level row left (set rows many (length row))
    ranking_rows {left} ends = record {
      low = λ j d h l.
          let w : d < length (ranked level due total j) = omega (arith, begin_at j h) in
          let f = ranked_first level due total fits j m d (omega arith) w in
          subst (λ y. at level (y / 2) < j) (sym (ap (λ xs. at xs d) s.written ∙ f)) (ranked_place level due total fits j d w).low;
      ends = subst (RowsEnd left 0) (sym ranking_whole) ends;
      most = λ j h. omega (arith, begin_at j h, ranking_whole, size, ranked_grows level due total fits j m (omega arith));
    }

    pub ranking_same : ((x : ℕ) → x < total → at level (at due x / 2) < many) → SameDues due total row (at (set rows many (length row)) many)
    ranking_same keyed = rw ranking_whole (record {
      few = ranking_small;
      sound = λ d h. subst (λ xs. Stands due total (at xs d)) (sym s.written) (ranked_place level due total fits m d (omega (arith, size))).stands;
      complete = λ x h.
          let t = ranked_holds level due total fits m x h (omega (arith, keyed x h)) in
          record { place = t.place; within = omega (arith, t.within, size); holds = ap (λ xs. at xs t.place) s.written ∙ t.holds };
    })

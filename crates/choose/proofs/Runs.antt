-- Dues one by one: runs of clocks, and in a run edge by edge.
--   few_pushed          of one edge no more is put than the run has clocks
--   run_ends            a run of clocks ends
--   run_room            the room that one more edge takes
--   dues_more           one edge further
--   dues_all            all runs are put
use Prim.Native.Nat.{ℕ, suc, ◌+◌, ◌*◌, ◌-◌, ◌≤◌, ◌<◌, min}
use native.Mathlib.Omega.{arith}
use native.Mathlib.Nat.{suc-mul, mul-le-mul_right}
use native.Mathlib.Numerals.{add-one}
use native.Mathlib.Decide.{ℕ_discrete, dec_lt}
use mathlib.Core.Path.{◌≡◌, refl, sym, subst, ap, ap₂, ◌∙◌}
use mathlib.Core.List.{List, [], ◌∷◌, ◌++◌}
use lib.ListN.{length, length-append, get_or-append}
use lib.Seq.{get_or_at}
use Rattle.graph.specs.Columns.{at, bit}
use Rattle.graph.specs.inner.Sort.{Stands, EachEdge}
use Rattle.netlist.specs.declared.Netlist.{Netlist}
use Rattle.search.specs.inner.Program.{rows_of, total_of}
use Rattle.choose.specs.inner.Dues.{cell_at, Carry, due_of, Owed, Dues, due_at, Pushed, DuesTo}

-- Of one edge no more is put than the run has clocks.
pub few_pushed : (w l low high n r : ℕ) → low ≤ high → r ≡ n + (min w (w + high - l) - (w + low - l)) → r + low ≤ n + high
few_pushed w l low high n r up q = omega arith

module _ (net : Netlist) (lag : ℕ → ℕ) (id along : List ℕ) where
  module _ (low high : ℕ) (due begin : List ℕ) where
    pub run_ends : (n : ℕ) → n ≡ net.edges → net.edges ≤ 1024 → low ≤ high → DuesTo net lag id along low high n due begin → DuesTo net lag id along high high 0 due begin
    run_ends n all few up d = record {
      some = d.some;
      none = d.none;
      rising = d.rising;
      last = d.last;
      few = let z : n * (high - low) ≤ 1024 * (high - low) = mul-le-mul_right (high - low) (omega arith) in omega (arith, d.few);
      sound = d.sound;
      complete = λ j s t h l k. d.complete j s t h l (λ x. absurd (let z : ⊥ = omega arith in z));
    }

    -- The room that one more edge takes.
    pub run_room : (n : ℕ) → n < 1024 → low ≤ high → DuesTo net lag id along low high n due begin → length due + (high - low) ≤ 1024 * high
    run_room n h up d =
        let z : suc n * (high - low) ≤ 1024 * (high - low) = mul-le-mul_right (high - low) h in
        omega (arith, suc-mul n (high - low), d.few)

  -- The edge of place n, with `w` registers, leaves a node of lag `l`: of its values those from `lo` up to `hi` are to be carried at the clocks of this run.
  module _ (low high n v w l lo hi : ℕ) (due due' begin : List ℕ) (d : DuesTo net lag id along low high n due begin) (place : n < net.edges) (edge : at along n < net.edges)
      (from : at net.from (at along n) ≡ v) (count : at net.count (at along n) ≡ w) (late : lag v ≡ l) (up : low ≤ high) (top : high ≤ 24)
      (lo-is : lo ≡ w + low - l) (hi-is : hi ≡ min w (w + high - l)) (a : Pushed (due_at id v l w (at net.start (at along n))) due due' lo hi) where
    e : ℕ
    e = at along n

    -- The values of this edge: which are to be carried, and their dues.
    carry : (s : ℕ) → lo ≤ s → s < hi → Carry net lag e s (s + l - w)
    unfolding e
    carry s h k = record { edge = edge; old = omega arith; clock = omega (arith, ap lag from) }

    clock_is : (s t : ℕ) → low ≤ t → t < high → Carry net lag e s t → (lo ≤ s) × (s < hi) × (t ≡ s + l - w)
    unfolding e
    clock_is s t h k c = (omega (arith, c.clock, ap lag from), omega (arith, c.old, c.clock, ap lag from), omega (arith, c.clock, ap lag from))

    due_is : (s t : ℕ) → t ≡ s + l - w → due_at id v l w (at net.start e) s ≡ due_of net (cell_at id) e s t
    unfolding e
    due_is s t q = ap₂ (λ u x. cell_at id u x * 2 + bit (at net.start e) s) (sym from) (sym q)

    rise : length due' + low ≤ length due + high
    rise = few_pushed w l low high (length due) (length due') up (a.rows ∙ ap₂ (λ x y. length due + (x - y)) hi-is lo-is)

    sound_new : (x : ℕ) → x < length due' → Dec (x < length due) → Owed net lag (cell_at id) (at due' x)
    unfolding e
    sound_new x h (yes y) = subst (Owed net lag (cell_at id)) (sym (a.kept x y)) (d.sound x y)
    sound_new x h (no y) =
        let k = x - length due in
        let s = lo + k in
        let b : s < hi = omega (arith, a.rows) in
        record {
          edge = e;
          old = s;
          clock = s + l - w;
          carry = carry s (omega arith) b;
          is = ap (at due') (let z : x ≡ length due + k = omega arith in z) ∙ a.added k b ∙ due_is s (s + l - w) refl;
        }

    kept_due : (x : ℕ) → Stands due (length due) x → Stands due' (length due') x
    kept_due x o = record { place = o.place; within = omega (arith, o.within, a.rows); holds = a.kept o.place o.within ∙ o.holds }

    complete_here : (s t : ℕ) → t < high → Dec (t < low) → Carry net lag e s t → Stands due' (length due') (due_of net (cell_at id) e s t)
    unfolding e
    complete_here s t h (yes y) c = kept_due _ (d.complete n s t place h (λ x. y) c)
    complete_here s t h (no y) c =
        let (b, u, q) = clock_is s t (omega arith) h c in
        let k = s - lo in
        let z : lo + k ≡ s = omega arith in
        record { place = length due + k; within = omega (arith, a.rows); holds = a.added k (omega arith) ∙ ap (due_at id v l w (at net.start e)) z ∙ due_is s t q }

    complete_new : (j s t : ℕ) → j < net.edges → t < high → (n + 1 ≤ j → t < low) → Dec (j ≡ n) → Carry net lag (at along j) s t
        → Stands due' (length due') (due_of net (cell_at id) (at along j) s t)
    unfolding e
    complete_new j s t h u k (yes y) =
        subst (λ f. Carry net lag f s t → Stands due' (length due') (due_of net (cell_at id) f s t)) (ap (at along) (sym y)) (complete_here s t u (dec_lt t low))
    complete_new j s t h u k (no y) = λ c. kept_due _ (d.complete j s t h u (λ x. k (omega arith)) c)

    few_new : length due' ≤ 1024 * low + (n + 1) * (high - low)
    few_new = omega (arith, d.few, rise, suc-mul n (high - low), ap (λ x. x * (high - low)) (add-one n))

    no_row : length due' ≤ length due → DuesTo net lag id along low high (n + 1) due' begin
    no_row h = record {
      some = d.some;
      none = d.none;
      rising = d.rising;
      last = omega (arith, d.last, a.rows);
      few = few_new;
      sound = λ x l. sound_new x l (dec_lt x (length due));
      complete = λ j s t l u k. complete_new j s t l u k (ℕ_discrete j n);
    }

    row_more : length due < length due' → DuesTo net lag id along low high (n + 1) due' (begin ++ length due' ∷ [])
    row_more more = record {
      some = omega (arith, longer);
      none = get_or-append begin _ 0 0 d.some ∙ d.none;
      rising = λ i h. go i (omega (arith, longer, d.some)) (ℕ_discrete i (rows_of begin));
      last = get_or_at begin (length due') [] 0 _ (omega (arith, longer));
      few = few_new;
      sound = λ x h. sound_new x h (dec_lt x (length due));
      complete = λ j s t h u k. complete_new j s t h u k (ℕ_discrete j n);
    }
      where
        longer : length (begin ++ length due' ∷ []) ≡ length begin + 1
        longer = length-append begin (length due' ∷ [])

        go : (i : ℕ) → i < length begin → Dec (i ≡ rows_of begin) → (at (begin ++ length due' ∷ []) i < at (begin ++ length due' ∷ []) (suc i)) × (at (begin ++ length due' ∷ []) (suc i) ≤ at (begin ++ length due' ∷ []) i + 24)
        go i h (yes y) =
            let p : at (begin ++ length due' ∷ []) i ≡ length due = get_or-append begin _ 0 i h ∙ ap (at begin) y ∙ d.last in
            let q : at (begin ++ length due' ∷ []) (suc i) ≡ length due' = get_or_at begin (length due') [] 0 (suc i) (omega (arith, d.some)) in
            (omega arith, omega (arith, rise))
        go i h (no y) =
            let r = d.rising i (omega (arith, d.some)) in
            let p = get_or-append begin (length due' ∷ []) 0 i h in
            let q = get_or-append begin (length due' ∷ []) 0 (suc i) (omega (arith, d.some)) in
            (omega (arith, r.0), omega (arith, r.1))

    -- Nothing of it is due in this run, and no row begins; or a row does.
    pub dues_more : (length due' ≤ length due → DuesTo net lag id along low high (n + 1) due' begin)
        × (length due < length due' → DuesTo net lag id along low high (n + 1) due' (begin ++ length due' ∷ []))
    dues_more = (no_row, row_more)

-- All runs are put, up to the largest lag.
module _ (net : Netlist) (lag : ℕ → ℕ) (id along due begin : List ℕ) (low : ℕ) (d : DuesTo net lag id along low low 0 due begin) where
  pub dues_all : EachEdge along net.edges → ((e : ℕ) → e < net.edges → lag (at net.from e) ≤ low) → Dues net lag (cell_at id) due (total_of begin)
  dues_all whole top =
      rw d.last (record {
        sound = d.sound;
        complete = λ e s t c.
            let p = whole.every_edge e c.edge in
            let h : t < low = omega (arith, c.old, c.clock, top e c.edge) in
            subst (λ f. Carry net lag f s t → Stands due (length due) (due_of net (cell_at id) f s t)) p.holds (d.complete p.place s t p.within h (λ x. h)) c;
      })

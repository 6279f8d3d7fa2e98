-- Level by level: the stack of cells that wait, and where the levels begin.
--   waiting_more, waiting_less     the stack: a push, a pop
--   begun_here, begun_more         where the levels begin
--   ranked              all cells have numbers
use Prim.Native.Nat.{ℕ, suc, ◌+◌, ◌-◌, ◌≤◌, ◌<◌}
use native.Mathlib.Omega.{arith}
use native.Mathlib.Decide.{ℕ_discrete, dec_lt}
use mathlib.Core.Path.{◌≡◌, ap, ◌∙◌}
use mathlib.Core.List.{List}
use lib.ListN.{length, set}
use lib.Seq.{get_or-set_same, get_or-set_other}
use Rattle.graph.specs.Columns.{at}
use Rattle.graph.proofs.Fills.{fill_with}
use Rattle.solve.specs.inner.Parts.{Spans}
use Rattle.solve.specs.inner.Numbers.{Layers, Numbered, Waiting, LevelsBegun, Ranked}
use Rattle.solve.proofs.Spanning.{reach_bit}
use Rattle.solve.proofs.Numbering.{numbered_all}

-- ── The stack ───────────────────────────────────────────────────────────────────────────────

module _ {m h i : ℕ} {span id stack : List ℕ} (s : Waiting m h i span id stack) (some : 0 < h) where
  -- A cell that the top needs goes on top of it.
  module _ (x : ℕ) (rows : h < length stack) (less : x < at stack (h - 1)) (own : at span x ≡ m) (free : at id x ≡ 12288) where
    here : at (set stack h x) h ≡ x
    here = get_or-set_same stack h x 0 rows

    other : (j : ℕ) → ¬ (j ≡ h) → at (set stack h x) j ≡ at stack j
    other j o = get_or-set_other stack h j x 0 o

    falls_more : (a b : ℕ) → Dec (b ≡ h) → Dec (a ≡ h) → a ≤ b → b < h + 1 → at (set stack h x) b + b ≤ at (set stack h x) a + a
    falls_more a b (yes e) (yes f) l g = let z : b ≡ a = omega arith in omega (arith, ap (at (set stack h x)) z)
    falls_more a b (yes e) (no f) l g =
        omega (arith, ap (at (set stack h x)) e ∙ here, other a f, s.falls a (h - 1) (omega arith) (omega arith))
    falls_more a b (no e) f l g = omega (arith, other a (λ z. omega arith), other b e, s.falls a b l (omega arith))

    pub waiting_more : Waiting m (h + 1) i span id (set stack h x)
    waiting_more = record {
      bottom = other 0 (λ z. omega arith) ∙ s.bottom;
      level = fill_with (λ j y. at span y ≡ m) stack h x rows own s.level;
      waits = fill_with (λ j y. at id y ≡ 12288) stack h x rows free s.waits;
      falls = λ a b l g. falls_more a b (ℕ_discrete b h) (ℕ_discrete a h) l g;
    }

  pub waiting_less : (n : ℕ) → Waiting m (h - 1) i span (set id (at stack (h - 1)) n) stack
  waiting_less n = record {
    bottom = s.bottom;
    level = λ j l. s.level j (omega arith);
    waits = λ j l.
        get_or-set_other id (at stack (h - 1)) (at stack j) n 0 (λ z. omega (arith, s.falls j (h - 1) (omega arith) (omega arith)))
        ∙ s.waits j (omega arith);
    falls = λ a b l g. s.falls a b l (omega arith);
  }

-- ── Levels ──────────────────────────────────────────────────────────────────────────────────

module _ {m n : ℕ} {span code levels : List ℕ} (s : LevelsBegun m n span code levels) where
  module _ (rows : m < length levels) (below : (q : ℕ) → q < n → at span (at code q) < m) where
    pub begun_here : at (set levels m n) m ≡ n
    begun_here = get_or-set_same levels m n 0 rows

    kept : (a : ℕ) → ¬ (a ≡ m) → at (set levels m n) a ≡ at levels a
    kept a o = get_or-set_other levels m a n 0 o

    within_more : (a : ℕ) → Dec (a ≡ m) → a < m + 1 → at (set levels m n) a ≤ n
    within_more a (yes e) h = omega (arith, ap (at (set levels m n)) e ∙ begun_here)
    within_more a (no e) h = omega (arith, kept a e, s.within a (omega arith))

    climbs_more : (a : ℕ) → Dec (suc a ≡ m) → suc a < m + 1 → at (set levels m n) a ≤ at (set levels m n) (suc a)
    climbs_more a (yes e) h = omega (arith, kept a (λ z. omega arith), s.within a (omega arith), ap (at (set levels m n)) e ∙ begun_here)
    climbs_more a (no e) h = omega (arith, kept a (λ z. omega arith), kept (suc a) e, s.climbs a (omega arith))

    low_more : (a q : ℕ) → Dec (a ≡ m) → a < m + 1 → q < at (set levels m n) a → at span (at code q) < a
    low_more a q (yes e) h l = omega (arith, below q (omega (arith, ap (at (set levels m n)) e ∙ begun_here)))
    low_more a q (no e) h l = s.low a q (omega arith) (omega (arith, kept a e))

    pub begun_more : LevelsBegun (m + 1) n span code (set levels m n)
    begun_more = record {
      within = λ a h. within_more a (ℕ_discrete a m) h;
      climbs = λ a h. climbs_more a (ℕ_discrete (suc a) m) h;
      low = λ a q h l. low_more a q (ℕ_discrete a m) h l;
    }

pub ranked : {k m n : ℕ} {L : Layers} {id code levels : List ℕ} → L.cells ≤ 12288 → Spans k L.first L.operand L.span L.cells → m ≡ k + 1
    → Numbered L m n id code → LevelsBegun (m + 1) n L.span code levels → at levels m ≡ n → Ranked L.cells k L.first L.operand id code levels
ranked {k} {m} {n} {L} {id} {code} {levels} few t e s b last = record {
  paired = record {
    id_rows = s.id_rows;
    code_rows = omega (arith, s.code_rows, all);
    cell = λ q h. s.cell q (omega (arith, all));
    number = λ q h. s.number q (omega (arith, all));
    each = λ i h. let o = s.each i h (λ z. omega (arith, given i h, s.few)) in (omega (arith, o.0, s.few), o.1);
  };
  sources = λ i j h. s.sources i j h (given i h);
  none = go (dec_lt 0 (at levels 0));
  climbs = λ a h. b.climbs a (omega arith);
  whole = ap (at levels) (let z : suc k ≡ m = omega arith in z) ∙ last ∙ all;
  within = λ a h. omega (arith, b.within a (omega arith), all);
  sees = λ a q j h l v o w.
      let x = b.low (suc a) q (omega arith) l in
      let y : q < n = omega (arith, b.within (suc a) (omega arith)) in
      omega (arith, t.above (at code q) j (s.cell q y) v o, reach_bit L.span (at L.operand j) w);
}
  where
    given : (i : ℕ) → i < L.cells → at id i < n
    given i h = s.lower i h (omega (arith, t.most i h))

    all : n ≡ L.cells
    all = numbered_all few s given

    go : Dec (0 < at levels 0) → at levels 0 ≡ 0
    go (yes h) = absurd (let z : ⊥ = omega (arith, b.low 0 0 (omega arith) h) in z)
    go (no h) = omega arith

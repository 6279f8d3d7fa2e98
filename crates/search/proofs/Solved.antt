-- From rows back to what is due.
--   solves_same         the best list by what the rows hold is the best by what is due
--   solves_choice       where nothing is filled a list is a choice
--   levels_cut          the levels of cells by a cut list
--   plan_of             what the search is given
use Prim.Native.Nat.{ℕ, suc, ◌+◌, ◌^◌, ◌/◌, ◌%◌, ◌<◌, ◌≤◌}
use native.Mathlib.Omega.{arith}
use native.Mathlib.Numerals.{add-one}
use native.Mathlib.Nat.{mod-eq_of_lt}
use mathlib.Core.Path.{◌≡◌, sym, ap, subst}
use mathlib.Core.Logic.{◌↔◌}
use Rattle.std.specs.Prelude.{Option, Some, None}
use mathlib.Core.List.{List, []}
use lib.ListN.{length, take}
use Rattle.std.proofs.lemmas.List.{length-take-le, get_or-take}
use Rattle.theory.proofs.moves.Prefers.{prefers_below}
use Rattle.graph.specs.Columns.{at}
use Rattle.search.specs.declared.choices.Extent.{Extent}
use Rattle.search.specs.inner.Program.{Program, value_at, RightProgram, rows_of, total_of, GivesDues, Fulfils, Solves, SolvesLists, Levelled}
use Rattle.search.specs.inner.Rows.{Level, Rows, SameDues}
use Rattle.search.specs.inner.States.{Plan}

module _ (k : ℕ) (P : Program) {due : List ℕ} {total : ℕ} {row : List ℕ} {dues : ℕ} (s : SameDues due total row dues) where
  due_holds : (c : ℕ) → GivesDues k P row dues c → GivesDues k P due total c
  due_holds c h x l = let t = s.complete x l in subst (λ y. y % 2 ≡ value_at P k c (y / 2)) t.holds (h t.place t.within)

  row_holds : (c : ℕ) → GivesDues k P due total c → GivesDues k P row dues c
  row_holds c h d l = let t = s.sound d l in subst (λ y. y % 2 ≡ value_at P k c (y / 2)) t.holds (h t.place t.within)

  pub solves_same : (fill : List (Option ℕ)) (best : Option ℕ) → SolvesLists k P row dues fill best → SolvesLists k P due total fill best
  solves_same fill (Some c) r = (r.0, (due_holds (c % 2 ^ k) r.1.0, r.1.1), λ d l p w. r.2 d l p (row_holds (d % 2 ^ k) w.0, w.1))
  solves_same fill None r = λ d l w. r d l (row_holds (d % 2 ^ k) w.0, w.1)

module _ (k : ℕ) (P : Program) (due : List ℕ) (total : ℕ) where
  unfilled : (c : ℕ) → c < 2 ^ k → Fulfils k P due total [] c ↔ GivesDues k P due total c
  unfilled c h =
      let e = mod-eq_of_lt h in (
        λ w. subst (GivesDues k P due total) e w.0,
        λ w. (subst (GivesDues k P due total) (sym e) w, λ x i q. absurd (let z : None ≡ Some i = q in cc)),
      )

  pub solves_choice : (best : Option ℕ) → SolvesLists k P due total [] best → Solves k P due total best
  solves_choice (Some c) a =
      let same : 2 ^ (0 + k) ≡ 2 ^ k = ap (λ n. 2 ^ n) (omega arith) in
      let small : c < 2 ^ k = omega (arith, a.0) in
      (small, (unfilled c small).0 a.1, λ d p w. let h : d < 2 ^ k = prefers_below p small in a.2 d (omega arith) p ((unfilled d h).1 w))
  solves_choice None a = λ d h w.
      let same : 2 ^ (0 + k) ≡ 2 ^ k = ap (λ n. 2 ^ n) (omega arith) in
      a d (omega arith) ((unfilled d h).1 w)

-- Levels by where those up to the last one begin.
pub levels_cut : (k : ℕ) (levels level : List ℕ) → suc k < length levels
    → ((i : ℕ) → i < total_of (take (k + 1 + 1) levels) → Level (take (k + 1 + 1) levels) (rows_of (take (k + 1 + 1) levels)) i (at level i))
    → (i : ℕ) → i < at levels (suc k) → Level levels (k + 1) i (at level i)
levels_cut k levels level fits own i h = record { from = omega (arith, w.from, same l (omega (arith, w.few))); below = omega (arith, w.below, same (suc l) (omega (arith, w.few))); few = omega (arith, w.few) }
  where
    l : ℕ
    l = at level i

    many : rows_of (take (k + 1 + 1) levels) ≡ k + 1
    many = omega (arith, length-take-le (k + 1 + 1) levels (omega arith))

    same : (j : ℕ) → j < k + 1 + 1 → at (take (k + 1 + 1) levels) j ≡ at levels j
    same j h = get_or-take (k + 1 + 1) levels j 0 h

    w : Level (take (k + 1 + 1) levels) (k + 1) i (at level i)
    w = subst (λ n. Level (take (k + 1 + 1) levels) n i (at level i)) many (own i (omega (arith, ap (at (take (k + 1 + 1) levels)) many, same (k + 1) (omega arith), ap (at levels) (add-one k))))

pub plan_of : {k : ℕ} {e : Extent} {P : Program} {level due : List ℕ} {total : ℕ} {row left : List ℕ}
    → e.limit ≡ 2 ^ k → RightProgram (length P.kind) k P → Levelled (length P.kind) k P e.levels
    → ((x : ℕ) → x < total → at due x / 2 < length P.kind) → total ≤ 24576 → length P.kind ≤ length level
    → ((i : ℕ) → i < length P.kind → Level e.levels (k + 1) i (at level i))
    → e.dues ≤ length row → total ≤ length left → suc k < length e.rows → at e.rows (k + 1) ≡ e.dues
    → Rows (k + 1) level row left e.rows → SameDues due total row e.dues → Plan k e P level row left
plan_of {k} {e} {P} {level = level} limit f v asks few size own row_room left-room many whole r t = record {
  limit = limit;
  program = f;
  levelled = v;
  level_rows = size;
  level_of = rw (add-one k) at own;
  row_rows = row_room;
  left_rows = omega (arith, t.few);
  few_dues = omega (arith, t.few);
  rows_rows = many;
  whole = rw add-one at whole;
  cell = λ d h. let y = t.sound d h in subst (λ x. x / 2 < length P.kind) y.holds (asks y.place y.within);
  in_rows = rw (add-one k) at r;
}

-- What the functions of the search promise each other. Signals are what each operand shows: the chosen bit x at x, the value of cell i at 32 + i.
--   next_after c b      the first choice above c that differs from it in a bit from place b up
--   ChoiceShown k c sig  the first k signals are the bits of the choice c
--   Truthful            each cell has a truth word of its gate
--   Valued c p sig      the signals are the bits of c and the values of the cells below p
--   CanEvaluate         what `evaluate` asks: the cells below `start` are evaluated, under some choice
--   GoesOn              evaluation goes on from p to q
--   EvaluatedTo         what it does: under whatever choice that was, those below r are, and r is the larger of `start` and `end`
--   Advanced            what `advance` does: the bits are those of the first choice that differs in one of the first m; it agrees on the first r − 1
--   Jumped              what `jump` does: that choice, and the first cell and the first due that depend on a changed bit
--   filled sig p        a filling: what the cell that asks for it shows, or 0
--   ListOf              the list of a choice: its fillings are read off their cells, and one that nothing asks for is 0
--   Better              the better of the best list so far and another: neither is preferred to it
--   Plan                what the search is given: a right program whose cells are ordered by level, and what is due of them in rows
--   Fresh               its signals: room for them, and every chosen bit 0
use Rattle.std.specs.Prelude.{◌≡◌, Option, Some, None, ◌⊎◌, List, ℕ, suc, ◌+◌, ◌-◌, ◌*◌, ◌^◌, ◌/◌, ◌%◌, ◌<◌, ◌≤◌, length}
use Rattle.theory.specs.Move.{digit, Prefers}
use Rattle.graph.specs.Columns.{at}
use Rattle.gates.specs.inner.Gates.{Reckons}
use Rattle.search.specs.declared.choices.Extent.{Extent}
use Rattle.search.specs.declared.choices.Turn.{Turn}
use Rattle.search.specs.inner.Program.{Program, RightProgram, asked, Levelled, value_at}
use Rattle.search.specs.inner.Rows.{Level, Rows}

-- ── Cells ───────────────────────────────────────────────────────────────────────────────────

abbrev pub ChoiceShown : ℕ → ℕ → List ℕ → Type 0
ChoiceShown k c sig = (x : ℕ) → x < k → at sig x ≡ digit k c x

abbrev pub Truthful : List ℕ → List ℕ → List ℕ → Type 0
Truthful kind first truth = (i : ℕ) → i < length kind → Reckons (at kind i) (at first (suc i) - at first i) (at truth i)

pub record Valued (cells k : ℕ) (P : Program) (c p : ℕ) (sig : List ℕ) : Type 0 where
  pub size : 32 + cells ≤ length sig
  pub few : p ≤ cells
  pub bits : ChoiceShown k c sig
  pub values : (i : ℕ) → i < p → at sig (32 + i) ≡ value_at P k c i

pub record CanEvaluate (k : ℕ) (P : Program) (start end : ℕ) (sig : List ℕ) : Type 0 where
  pub choice : ℕ
  pub valued : Valued (length P.kind) k P choice start sig
  pub within : end ≤ length P.kind

-- Whatever choice this is: if the cells below p are evaluated under it, those below q are in the signals after.
abbrev pub GoesOn : ℕ → Program → ℕ → List ℕ → ℕ → List ℕ → Type 0
GoesOn k P p old q sig = (c : ℕ) → Valued (length P.kind) k P c p old → Valued (length P.kind) k P c q sig

pub record EvaluatedTo (k : ℕ) (P : Program) (start end : ℕ) (old sig : List ℕ) (r : ℕ) : Type 0 where
  pub after : start ≤ r
  pub reached : end ≤ r
  pub carried : GoesOn k P start old r sig

-- ── Choices ─────────────────────────────────────────────────────────────────────────────────

abbrev pub next_after : ℕ → ℕ → ℕ
next_after c b = suc (c / 2 ^ b) * 2 ^ b

-- Two choices of k bits agree on their first x − 1 bits where they agree from place suc k − x up.
pub record Advanced (k m : ℕ) (old sig : List ℕ) (r : ℕ) : Type 0 where
  pub most : r ≤ m
  pub cells : (j : ℕ) → k ≤ j → at sig j ≡ at old j
  pub bits : (c : ℕ) → c < 2 ^ k → ChoiceShown k c old → ChoiceShown k (next_after c (k - m)) sig
  pub agree : (c : ℕ) → c < 2 ^ k → ChoiceShown k c old → c / 2 ^ (suc k - r) ≡ next_after c (k - m) / 2 ^ (suc k - r)

pub record Jumped (c k m : ℕ) (levels rows old sig : List ℕ) (t : Turn) : Type 0 where
  pub next : t.choice ≡ next_after c (k - m)
  pub bits : ChoiceShown k t.choice sig
  pub cells : (j : ℕ) → k ≤ j → at sig j ≡ at old j
  pub level : ℕ
  pub most : level ≤ m
  pub agree : c / 2 ^ (suc k - level) ≡ t.choice / 2 ^ (suc k - level)
  pub cell_at : t.cell ≡ at levels level
  pub due_at : t.due ≡ at rows level

-- ── Lists ───────────────────────────────────────────────────────────────────────────────────

abbrev pub filled : List ℕ → Option ℕ → ℕ
filled sig (Some i) = at sig (32 + i)
filled sig None = 0

pub record ListOf (k : ℕ) (fill : List (Option ℕ)) (sig : List ℕ) (c r : ℕ) : Type 0 where
  pub few : r < 2 ^ (length fill + k)
  pub choice : r % 2 ^ k ≡ c
  pub digits : (x : ℕ) → x < length fill → digit (length fill + k) r x ≡ filled sig (asked fill x)

pub record Better (best : Option ℕ) (list r : ℕ) : Type 0 where
  pub one : (r ≡ list) ⊎ (best ≡ Some r)
  pub over_list : ¬ Prefers list r
  pub over_best : (x : ℕ) → best ≡ Some x → ¬ Prefers x r

-- ── The search ──────────────────────────────────────────────────────────────────────────────

pub record Plan (k : ℕ) (e : Extent) (P : Program) (level row left : List ℕ) : Type 0 where
  pub limit : e.limit ≡ 2 ^ k
  pub program : RightProgram (length P.kind) k P
  pub levelled : Levelled (length P.kind) k P e.levels
  pub level_rows : length P.kind ≤ length level
  pub level_of : (i : ℕ) → i < length P.kind → Level e.levels (suc k) i (at level i)
  pub row_rows : e.dues ≤ length row
  pub left_rows : e.dues ≤ length left
  pub few_dues : e.dues ≤ 24576
  pub rows_rows : suc k < length e.rows
  pub whole : at e.rows (suc k) ≡ e.dues
  pub cell : (d : ℕ) → d < e.dues → at row d / 2 < length P.kind
  pub in_rows : Rows (suc k) level row left e.rows

abbrev pub Fresh : ℕ → List ℕ → Type 0
Fresh cells sig = (32 + cells ≤ length sig) × ((x : ℕ) → x < 32 → at sig x ≡ 0)

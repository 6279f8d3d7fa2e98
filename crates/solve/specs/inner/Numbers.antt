-- New numbers for the cells: by level, the leading bits that a cell depends on, and each after the cells that it needs.
-- `id` has a cell's number, 12,288 where it has none yet; `code` has a number's cell.
--   Layers              what the numbering is given: so many cells, where the operands of each begin, all operands, and a level for each cell
--   layers_of           these together
--   Layered             the level of a cell is no lower than that of a cell that it needs
--   MissingCell, Missing     a cell of the same level that cell i needs and that has no number yet; that cell, or that there is none
--   Numbered            n numbers are given: to all cells of levels below m and some of level m, each after what it needs
--   Waiting             a stack of h cells that wait for their numbers, each needed by the one below it; cell i is at the bottom
--   LevelsBegun         levels below m begin where they should
--   Paired              every cell has a number below `cells`, and every such number its cell
--   Ranked              so, each cell after those that it needs, and `levels` says where each level begins
--   ins first i         how many operands cell i has
--   renumbered id x     the operand x under the new numbers
--   Renumberable        the operand x is a chosen bit or a cell that has a number
--   ProgramRenumbered          the program of the first n cells under the new numbers
--   Redue               the dues under the new numbers
--   refilled, Refill    what asks for a filling under the new numbers, and for all of them
use Rattle.std.specs.Prelude.{Option, Some, None, ◌≡◌, cond, List, ℕ, suc, ◌+◌, ◌-◌, ◌*◌, ◌/◌, ◌%◌, ◌<◌, ◌≤◌, ltb, length}
use Rattle.graph.specs.Columns.{at}
use Rattle.search.specs.inner.Program.{Program, asked}
use Rattle.solve.specs.inner.Parts.{OperandsWired}

-- ── Numbers ─────────────────────────────────────────────────────────────────────────────────

pub record Layers : Type 0 where
  pub cells : ℕ
  pub first : List ℕ
  pub operand : List ℕ
  pub span : List ℕ

abbrev pub layers_of : ℕ → List ℕ → List ℕ → List ℕ → Layers
layers_of cells first operand span = record { cells = cells; first = first; operand = operand; span = span }

pub record Layered (L : Layers) : Type 0 where
  pub wired : OperandsWired L.cells L.first L.operand
  pub span_rows : L.cells ≤ length L.span
  pub above : (i j : ℕ) → i < L.cells → at L.first i ≤ j → j < at L.first (suc i) → 32 ≤ at L.operand j
      → at L.span (at L.operand j - 32) ≤ at L.span i

pub record MissingCell (L : Layers) (id : List ℕ) (i r : ℕ) : Type 0 where
  pub below : r < i
  pub same_level : at L.span r ≡ at L.span i
  pub free : at id r ≡ 12288

abbrev pub Missing : Layers → List ℕ → ℕ → Option ℕ → Type 0
Missing L id i (Some r) = MissingCell L id i r
Missing L id i None = (j : ℕ) → at L.first i ≤ j → j < at L.first (suc i) → 32 ≤ at L.operand j
    → at L.span (at L.operand j - 32) ≡ at L.span i → ¬ (at id (at L.operand j - 32) ≡ 12288)

pub record Numbered (L : Layers) (m n : ℕ) (id code : List ℕ) : Type 0 where
  pub few : n ≤ L.cells
  pub id_rows : L.cells ≤ length id
  pub code_rows : length code ≡ n
  pub cell : (q : ℕ) → q < n → at code q < L.cells
  pub number : (q : ℕ) → q < n → at id (at code q) ≡ q
  pub each : (i : ℕ) → i < L.cells → ¬ (at id i ≡ 12288) → (at id i < n) × (at code (at id i) ≡ i)
  pub sources : (i j : ℕ) → i < L.cells → at id i < n → at L.first i ≤ j → j < at L.first (suc i) → 32 ≤ at L.operand j
      → at id (at L.operand j - 32) < at id i
  pub lower : (i : ℕ) → i < L.cells → at L.span i < m → at id i < n
  pub level : (q : ℕ) → q < n → at L.span (at code q) ≤ m

-- A cell is later than those that it needs, so the stack's members fall.
pub record Waiting (m h i : ℕ) (span id stack : List ℕ) : Type 0 where
  pub bottom : at stack 0 ≡ i
  pub level : (j : ℕ) → j < h → at span (at stack j) ≡ m
  pub waits : (j : ℕ) → j < h → at id (at stack j) ≡ 12288
  pub falls : (a b : ℕ) → a ≤ b → b < h → at stack b + b ≤ at stack a + a

pub record LevelsBegun (m n : ℕ) (span code levels : List ℕ) : Type 0 where
  pub within : (a : ℕ) → a < m → at levels a ≤ n
  pub climbs : (a : ℕ) → suc a < m → at levels a ≤ at levels (suc a)
  pub low : (a q : ℕ) → a < m → q < at levels a → at span (at code q) < a

pub record Paired (cells : ℕ) (id code : List ℕ) : Type 0 where
  pub id_rows : cells ≤ length id
  pub code_rows : cells ≤ length code
  pub cell : (q : ℕ) → q < cells → at code q < cells
  pub number : (q : ℕ) → q < cells → at id (at code q) ≡ q
  pub each : (i : ℕ) → i < cells → (at id i < cells) × (at code (at id i) ≡ i)

pub record Ranked (cells k : ℕ) (first operand id code levels : List ℕ) : Type 0 where
  pub paired : Paired cells id code
  pub sources : (i j : ℕ) → i < cells → at first i ≤ j → j < at first (suc i) → 32 ≤ at operand j → at id (at operand j - 32) < at id i
  pub none : at levels 0 ≡ 0
  pub climbs : (m : ℕ) → m ≤ k → at levels m ≤ at levels (suc m)
  pub whole : at levels (suc k) ≡ cells
  pub within : (m : ℕ) → m ≤ suc k → at levels m ≤ cells
  pub sees : (m q j : ℕ) → m ≤ k → q < at levels (suc m) → at first (at code q) ≤ j → j < at first (suc (at code q)) → at operand j < 32
      → at operand j < m

-- ── The program under the new numbers ───────────────────────────────────────────────────────

abbrev pub ins : List ℕ → ℕ → ℕ
ins first i = at first (suc i) - at first i

-- A chosen bit stays.
unfoldable pub renumbered : List ℕ → ℕ → ℕ
renumbered id x = cond (ltb x 32) x (32 + at id (x - 32))

-- A cell has a number.
abbrev pub Renumberable : List ℕ → ℕ → Type 0
Renumberable id x = 32 ≤ x → (x - 32 < length id) × (at id (x - 32) < 12288)

-- Q is P under the new numbers.
pub record ProgramRenumbered (n : ℕ) (P : Program) (id code : List ℕ) (Q : Program) : Type 0 where
  pub none : at Q.first 0 ≡ 0
  pub same_kind : (q : ℕ) → q < n → at Q.kind q ≡ at P.kind (at code q)
  pub counts : (q : ℕ) → q < n → at Q.first (suc q) ≡ at Q.first q + ins P.first (at code q)
  pub same_operand : (q t : ℕ) → q < n → t < ins P.first (at code q)
      → at Q.operand (at Q.first q + t) ≡ renumbered id (at P.operand (at P.first (at code q) + t))

abbrev pub Redue : List ℕ → ℕ → List ℕ → List ℕ → Type 0
Redue id n old due = (x : ℕ) → x < n → at due x ≡ at id (at old x / 2) * 2 + at old x % 2

abbrev pub refilled : List ℕ → Option ℕ → Option ℕ
refilled id (Some i) = Some (at id i)
refilled id None = None

abbrev pub Refill : List ℕ → List (Option ℕ) → List (Option ℕ) → Type 0
Refill id old fill = (x : ℕ) → asked fill x ≡ refilled id (asked old x)

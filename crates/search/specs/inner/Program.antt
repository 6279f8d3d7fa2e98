-- A program: cells in a row, each a gate over chosen bits and earlier cells. A choice of k bits is a number, first bit highest.
-- A list of f + k bits is one too: its first f bits are fillings, which are read off cells, its last k bits the choice. The column `fill`, of f places, says what a filling is:
-- None nothing asks for it, Some i the value of cell i.
--   Program             its columns: the kind of each cell's gate, where the cell's operands begin, and all operands
--   program_of           these columns together
--   look k c vals x     what the operand x shows: below 32 the chosen bit x, else the value of cell x − 32
--   operands_of         the operands of a cell
--   values_to, value_at  under the choice c of k bits: the values of the first n cells, the value of cell i
--   RightProgram        the gates keep their rules, and their operands are bits below k and earlier cells
--   rows_of begin       how many rows there are, by where they begin and where the last one ends
--   total_of begin      how much stands in them
--   Owes                what is due: the number 2 i + x says that cell i must give x; the dues are in rows, each a run of one edge's moved clocks
--   asked fill x        what asks for filling x: a cell, or nothing
--   GivesDues           every cell gives what is due of it
--   Fillable            the column `fill` asks for cells, and a list has at most 24 bits
--   FillsTo             a list gives each filling that is asked for the value of its cell
--   Fulfils             so, and under its choice every cell gives what is due of it
--   Solves              the best choice under which every cell gives what is due of it, or that there is none
--   SolvesLists         the best list that fulfils, or that none does
--   Levelled            cells are in rising order of the leading bits that they depend on; those of level m, which see no bit from m on, begin at levels(m)
use Rattle.std.specs.Prelude.{◌≡◌, Option, Some, None, cond, List, [], ◌∷◌, ◌++◌, map, ℕ, zero, suc, ◌+◌, ◌-◌, ◌^◌, ◌/◌, ◌%◌, ◌<◌, ◌≤◌, ltb, length, get_or}
use Rattle.theory.specs.Gate.{gate}
use Rattle.theory.specs.Move.{digit, Prefers}
use Rattle.graph.specs.Columns.{at}
use Rattle.gates.specs.inner.Gates.{part}

pub record Program : Type 0 where
  pub kind : List ℕ
  pub first : List ℕ
  pub operand : List ℕ

abbrev pub program_of : List ℕ → List ℕ → List ℕ → Program
program_of kind first operand = record { kind = kind; first = first; operand = operand }

unfoldable pub look : ℕ → ℕ → List ℕ → ℕ → ℕ
look k c vals x = cond (ltb x 32) (digit k c x) (at vals (x - 32))

-- Those of cell i are at the places from first(i) up to first(i + 1).
abbrev pub operands_of : List ℕ → List ℕ → ℕ → List ℕ
operands_of first operand i = part operand (at first i) (at first (suc i))

unfoldable pub values_to : Program → ℕ → ℕ → ℕ → List ℕ
values_to P k c zero = []
values_to P k c (suc n) =
    let vals = values_to P k c n in
    vals ++ (gate (at P.kind n) (map (look k c vals) (operands_of P.first P.operand n)) ∷ [])

abbrev pub value_at : Program → ℕ → ℕ → ℕ → ℕ
value_at P k c i = at (values_to P k c (suc i)) i

pub record RightProgram (cells k : ℕ) (P : Program) : Type 0 where
  pub few_bits : k ≤ 24
  pub few_cells : cells ≤ 12288
  pub kind_rows : cells ≤ length P.kind
  pub first_rows : suc cells ≤ length P.first
  pub gates : (i : ℕ) → i < cells → at P.kind i < 11
  pub rising : (i : ℕ) → i < cells → at P.first i ≤ at P.first (suc i)
  pub few_ins : (i : ℕ) → i < cells → at P.first (suc i) ≤ at P.first i + 8
  pub selectors : (i : ℕ) → i < cells → at P.kind i ≡ 10 → at P.first (suc i) ≡ at P.first i + 3
  pub in_rows : (i : ℕ) → i < cells → at P.first (suc i) ≤ length P.operand
  pub earlier : (i j : ℕ) → i < cells → at P.first i ≤ j → j < at P.first (suc i)
      → (at P.operand j < 32 → at P.operand j < k) × (32 ≤ at P.operand j → at P.operand j < 32 + i)

-- Row e is at the places from begin(e) up to begin(e + 1).
abbrev pub rows_of : List ℕ → ℕ
rows_of begin = length begin - 1

abbrev pub total_of : List ℕ → ℕ
total_of begin = at begin (rows_of begin)

pub record Owes (cells : ℕ) (due begin : List ℕ) (edges : ℕ) : Type 0 where
  pub begin_rows : edges < length begin
  pub due_rows : at begin edges ≤ length due
  pub few : at begin edges ≤ 24576
  pub none : at begin 0 ≡ 0
  pub rising : (e : ℕ) → e < edges → (at begin e ≤ at begin (suc e)) × (at begin (suc e) ≤ at begin e + 24)
  pub cell : (x : ℕ) → x < at begin edges → at due x / 2 < cells

abbrev pub GivesDues : ℕ → Program → List ℕ → ℕ → ℕ → Type 0
GivesDues k P due total c = (x : ℕ) → x < total → at due x % 2 ≡ value_at P k c (at due x / 2)

abbrev pub asked : List (Option ℕ) → ℕ → Option ℕ
asked fill x = get_or fill x None

pub record Fillable (cells k : ℕ) (fill : List (Option ℕ)) : Type 0 where
  pub few : length fill + k ≤ 24
  pub cell : (x i : ℕ) → asked fill x ≡ Some i → i < cells

abbrev pub FillsTo : ℕ → Program → List (Option ℕ) → ℕ → Type 0
FillsTo k P fill c = (x i : ℕ) → asked fill x ≡ Some i → digit (length fill + k) c x ≡ value_at P k (c % 2 ^ k) i

abbrev pub Fulfils : ℕ → Program → List ℕ → ℕ → List (Option ℕ) → ℕ → Type 0
Fulfils k P due total fill c = GivesDues k P due total (c % 2 ^ k) × FillsTo k P fill c

abbrev pub Solves : ℕ → Program → List ℕ → ℕ → Option ℕ → Type 0
Solves k P due total (Some c) = (c < 2 ^ k) × GivesDues k P due total c × ((d : ℕ) → Prefers d c → ¬ GivesDues k P due total d)
Solves k P due total None = (d : ℕ) → d < 2 ^ k → ¬ GivesDues k P due total d

abbrev pub SolvesLists : ℕ → Program → List ℕ → ℕ → List (Option ℕ) → Option ℕ → Type 0
SolvesLists k P due total fill (Some c) =
    (c < 2 ^ (length fill + k)) × Fulfils k P due total fill c × ((d : ℕ) → d < 2 ^ (length fill + k) → Prefers d c → ¬ Fulfils k P due total fill d)
SolvesLists k P due total fill None = (d : ℕ) → d < 2 ^ (length fill + k) → ¬ Fulfils k P due total fill d

pub record Levelled (cells k : ℕ) (P : Program) (levels : List ℕ) : Type 0 where
  pub rows : suc k < length levels
  pub none : at levels 0 ≡ 0
  pub climbs : (m : ℕ) → m ≤ k → at levels m ≤ at levels (suc m)
  pub whole : at levels (suc k) ≡ cells
  pub sees : (m i j : ℕ) → m ≤ k → i < at levels (suc m) → at P.first i ≤ j → j < at P.first (suc i) → at P.operand j < 32 → at P.operand j < m

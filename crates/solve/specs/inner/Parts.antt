-- What the cells of a program depend on. (A program is a row of cells, each a gate over chosen bits and earlier cells.)
--   depth span x        how many leading bits the operand x depends on: bit x on the first x + 1
--   Most                the most that a row of operands depends on
--   OperandsWired       the part of a right program that says where operands are
--   Spans               no cell depends on more leading bits than its span
use Rattle.std.specs.Prelude.{cond, List, ℕ, suc, ◌+◌, ◌-◌, ◌<◌, ◌≤◌, ltb, length}
use Rattle.graph.specs.Columns.{at}

unfoldable pub depth : List ℕ → ℕ → ℕ
depth span x = cond (ltb x 32) (suc x) (at span (x - 32))

pub record Most (operands span : List ℕ) (r : ℕ) : Type 0 where
  pub above : (j : ℕ) → j < length operands → depth span (at operands j) ≤ r
  pub least : (b : ℕ) → ((j : ℕ) → j < length operands → depth span (at operands j) ≤ b) → r ≤ b

-- An operand is a chosen bit, below 32, or an earlier cell.
pub record OperandsWired (cells : ℕ) (first operand : List ℕ) : Type 0 where
  pub few_cells : cells ≤ 12288
  pub first_rows : suc cells ≤ length first
  pub rising : (i : ℕ) → i < cells → at first i ≤ at first (suc i)
  pub in_rows : (i : ℕ) → i < cells → at first (suc i) ≤ length operand
  pub earlier : (i j : ℕ) → i < cells → at first i ≤ j → j < at first (suc i) → at operand j < 32 + i

-- For the first n cells.
pub record Spans (k : ℕ) (first operand span : List ℕ) (n : ℕ) : Type 0 where
  pub most : (i : ℕ) → i < n → at span i ≤ k
  pub above : (i j : ℕ) → i < n → at first i ≤ j → j < at first (suc i) → depth span (at operand j) ≤ at span i

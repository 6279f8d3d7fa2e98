-- The operands of the cells.
--   source_at           what an edge shows at clock t: a chosen value, or a cell
--   SourceRows          the edge is there, and so is the cell of its source, where it shows one
--   width_at            how many operands a cell has
--   OperandRows         a cell's operands can be read: `ins` has the edges by the node that they enter, whose edges begin at `begin`
--   Operands            the operands of the first cells
use Rattle.std.specs.Prelude.{◌≡◌, cond, List, ℕ, ◌+◌, ◌*◌, ◌-◌, ◌/◌, ◌%◌, ◌<◌, ◌≤◌, ltb}
use Rattle.theory.specs.Move.{sum}
use Rattle.graph.specs.Columns.{at}
use Rattle.netlist.specs.declared.Netlist.{Netlist}

unfoldable pub source_at : List ℕ → List ℕ → List ℕ → List ℕ → ℕ → ℕ → ℕ
source_at from counts base id t e = cond (ltb t (at counts e)) (at base e + t) (32 + at id (at from e * 32 + (t - at counts e)))

pub record SourceRows (net : Netlist) (counts id : List ℕ) (t e : ℕ) : Type 0 where
  pub early : t < 32
  pub edge : e < net.edges
  pub cell : at counts e ≤ t → at id (at net.from e * 32 + (t - at counts e)) < 12288

abbrev pub width_at : List ℕ → List ℕ → ℕ → ℕ
width_at begin code i = at begin (at code i / 32 + 1) - at begin (at code i / 32)

pub record OperandRows (net : Netlist) (counts id ins begin code : List ℕ) (i : ℕ) : Type 0 where
  pub row : at code i / 32 < 512
  pub shows : (k : ℕ) → at begin (at code i / 32) ≤ k → k < at begin (at code i / 32 + 1) → SourceRows net counts id (at code i % 32) (at ins k)

pub record Operands (from ins begin counts base id code : List ℕ) (n : ℕ) (first operand : List ℕ) : Type 0 where
  pub begins : (i : ℕ) → i < n + 1 → at first i ≡ sum (width_at begin code) i
  pub shown : (i : ℕ) → i < n → (k : ℕ) → k < width_at begin code i
      → at operand (sum (width_at begin code) i + k) ≡ source_at from counts base id (at code i % 32) (at ins (at begin (at code i / 32) + k))

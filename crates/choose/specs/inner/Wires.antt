-- The cells put together.
--   Placed              the cells are numbered along an evaluation order of the moved netlist
--   Wires               the cells stand: their kinds, and their operands, by the edges that enter each node
--   Chooses             the search's answer: the best choice that carries the start, or that none does
--   Standing            a right program, whose cells give what is due exactly where the choice carries the start
use Rattle.std.specs.Prelude.{◌≡◌, Option, Some, None, ◌↔◌, List, ℕ, ◌/◌, ◌<◌, ℤ, length, take, replicate}
use Rattle.graph.specs.Columns.{at}
use Rattle.graph.specs.inner.Sort.{Sorts, Ordered}
use Rattle.netlist.specs.declared.Netlist.{Netlist}
use Rattle.netlist.specs.Circuit.{BestAt, StartlessAt, choice_at}
use Rattle.netlist.specs.inner.Words.{CarriedAt}
use Rattle.search.specs.inner.Program.{program_of, RightProgram, rows_of, total_of, Owes, GivesDues}
use Rattle.choose.specs.inner.Numbers.{lag_at, CellsNumbered}
use Rattle.choose.specs.inner.Sources.{Operands}

pub record Placed (net : Netlist) (lab counts : List ℕ) (clocks : ℕ) (id code : List ℕ) : Type 0 where
  pub order : List ℕ
  pub whole : length order ≡ net.nodes
  pub ordered : Ordered net.nodes net.edges net.from net.to counts order
  pub numbered : CellsNumbered (lag_at lab) order clocks 0 id code

pub record Wires (net : Netlist) (counts base id code kind first operand : List ℕ) : Type 0 where
  pub ins : List ℕ
  pub begin : List ℕ
  pub kinds : (i : ℕ) → i < length code → at kind i ≡ at net.kind (at code i / 32)
  pub entering : Sorts net.to net.edges net.nodes (replicate 1024 0) ins begin
  pub operands : Operands net.from ins begin counts base id code (length code) first operand

abbrev pub Chooses : Netlist → (ℕ → ℤ) → Option ℕ → Type 0
Chooses net r (Some c) = BestAt net r c
Chooses net r None = StartlessAt net r

pub record Standing (net : Netlist) (r : ℕ → ℤ) (k cells : ℕ) (kind first operand due begin : List ℕ) : Type 0 where
  pub right : RightProgram cells k (program_of kind first operand)
  pub owes : Owes cells due begin (rows_of begin)
  pub holds : (c : ℕ) → GivesDues k (program_of (take cells kind) first operand) due (total_of begin) c ↔ CarriedAt net r (choice_at net r c)

-- The least retiming, as labels. "The least retiming is the legal one meeting the period whose lag is smallest at every node at once."
--   lag_of              the lag of a label
--   Sure                what reading has made sure of, as far as it is used here
--   Least               labels of the least retiming, each such that its lag fits 16 bits
--   Leasts              what `least` promises: such labels, or none where no legal retiming meets the period
use Rattle.std.specs.Prelude.{List, Option, Some, None, ℕ, ◌<◌, ℤ, pos, ◌-ℤ◌}
use Rattle.theory.specs.Walk.{FromInput}
use Rattle.graph.specs.Columns.{at}
use Rattle.netlist.specs.declared.Netlist.{Netlist}
use Rattle.netlist.specs.Net.{graph_of}
use Rattle.netlist.specs.Circuit.{LeastIn, LoopIn, NoneMeetsIn}
use Rattle.netlist.specs.inner.Words.{PinIn}
use Rattle.netlist.specs.Theorems.{Fit}

unfoldable pub lag_of : ℕ → ℤ
lag_of l = pos l -ℤ pos 16384

-- The lines keep their rules, no loop is without a register, and an input reaches every gate: half of rule 7. (Nothing here needs rule 5.)
pub record Sure (net : Netlist) : Type 0 where
  pub fit : Fit net
  pub no_loop : ¬ LoopIn net
  pub fed : (v : ℕ) → v < net.nodes → ¬ PinIn net v → FromInput (graph_of net) v

pub record Least (net : Netlist) (period : ℕ) (lab : List ℕ) : Type 0 where
  pub least : LeastIn net period (λ v. lag_of (at lab v))
  pub small : (v : ℕ) → v < net.nodes → at lab v < 32768

abbrev pub Leasts : Netlist → ℕ → Option (List ℕ) → Type 0
Leasts net period (Some lab) = Least net period lab
Leasts net period None = NoneMeetsIn net period

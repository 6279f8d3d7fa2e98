-- More of the theory's words, said of a netlist.
--   PinIn net v             v is an input or an output
--   LegalAt net r           the retiming r is legal
--   new_count_at net r e    the new count of an edge
--   chosen_on_at net r e    how many values are chosen on an edge
--   CarriedAt net r choice  the choice carries the start
--   retimed_at net r c      the registers after the move
use Rattle.std.specs.Prelude.{ℕ, ℤ}
use Rattle.theory.specs.Gate.{gate}
use Rattle.theory.specs.Graph.{Pin}
use Rattle.theory.specs.Clock.{Regs}
use Rattle.theory.specs.Lag.{new_count, Legal}
use Rattle.theory.specs.Move.{chosen_on, Carried}
use Rattle.theory.specs.Retimer.{retimed}
use Rattle.netlist.specs.declared.Netlist.{Netlist}
use Rattle.netlist.specs.Net.{graph_of, regs_of}

abbrev pub PinIn : Netlist → ℕ → Type 0
PinIn net v = Pin (graph_of net) v

abbrev pub LegalAt : Netlist → (ℕ → ℤ) → Type 0
LegalAt net r = Legal (graph_of net) (regs_of net).count r

abbrev pub new_count_at : Netlist → (ℕ → ℤ) → ℕ → ℕ
new_count_at net r e = new_count (graph_of net) (regs_of net).count r e

abbrev pub chosen_on_at : Netlist → (ℕ → ℤ) → ℕ → ℕ
chosen_on_at net r e = chosen_on (graph_of net) (regs_of net).count r e

abbrev pub CarriedAt : Netlist → (ℕ → ℤ) → (ℕ → ℕ → ℕ) → Type 0
CarriedAt net r choice = Carried gate (graph_of net) (regs_of net) r choice

abbrev pub retimed_at : Netlist → (ℕ → ℤ) → ℕ → Regs
retimed_at net r c = retimed gate (graph_of net) (regs_of net) r c

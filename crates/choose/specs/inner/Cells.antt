-- The start values to be found, as a program for the search: a cell for each node of positive lag and each clock below its lag.
--   source              where a cell's operand comes from: a chosen value, or an earlier cell
--   Compiled            the program is that of the netlist moved by the lags r, and what is due of it are the old values that are to be carried
use Rattle.std.specs.Prelude.{◌≡◌, cond, List, ℕ, ◌+◌, ◌-◌, ◌<◌, ltb, ℤ}
use Rattle.theory.specs.Clock.{gather}
use Rattle.theory.specs.Lag.{up, new_count}
use Rattle.theory.specs.Move.{sum, chosen_on}
use Rattle.graph.specs.Columns.{at}
use Rattle.netlist.specs.declared.Netlist.{Netlist}
use Rattle.netlist.specs.Net.{graph_of, regs_of}
use Rattle.search.specs.inner.Program.{operands_of}
use Rattle.choose.specs.inner.Dues.{Dues}

-- What the edge e shows at clock t, below the lag of the node that it enters: while t is below the new count a chosen value, then a cell of its source.
abbrev pub source : Netlist → (ℕ → ℤ) → (ℕ → ℕ → ℕ) → ℕ → ℕ → ℕ
source net r cell t e =
    let G = graph_of net in
    let N = new_count G (regs_of net).count r in
    cond (ltb t (N e)) (sum (chosen_on G (regs_of net).count r) e + t) (32 + cell (G.src e) (t - N e))

pub record Compiled (net : Netlist) (r : ℕ → ℤ) (cells : ℕ) (kind first operand due : List ℕ) (total : ℕ) (cell : ℕ → ℕ → ℕ) : Type 0 where
  pub inside : (v t : ℕ) → v < net.nodes → t < up (r v) → cell v t < cells
  pub kinds : (v t : ℕ) → v < net.nodes → t < up (r v) → at kind (cell v t) ≡ (graph_of net).kind v
  pub operands : (v t : ℕ) → v < net.nodes → t < up (r v)
      → operands_of first operand (cell v t) ≡ gather (graph_of net).dst (source net r cell t) v net.edges
  pub dues : Dues net (λ v. up (r v)) cell due total

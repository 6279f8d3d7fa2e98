-- Registers that are shared, edge by edge.
--   Far f w g x m n         of w registers with the values f, those from distance m up to n agree with x others with the values g, each with all nearer ones
--   Further f w g x m n     and the next one does not
--   Shared G R e n m        the registers of e that edges below n share are the nearest m
--   Counted net n total rails    the edges below n are counted
use Rattle.std.specs.Prelude.{◌≡◌, true, false, cond, List, ℕ, suc, ◌<◌, ◌≤◌, eqb, ltb}
use Rattle.theory.specs.Graph.{Graph}
use Rattle.theory.specs.Clock.{Regs}
use Rattle.theory.specs.Move.{sum}
use Rattle.graph.specs.Columns.{at}
use Rattle.netlist.specs.declared.Netlist.{Netlist}
use Rattle.netlist.specs.Net.{graph_of, regs_of}
use Rattle.rails.specs.Rails.{agreed, shared_below, paid_on}

pub record Far (f : ℕ → ℕ) (w : ℕ) (g : ℕ → ℕ) (x m n : ℕ) : Type 0 where
  pub low : m ≤ n
  pub within : n ≤ w
  pub agree : (d : ℕ) → m ≤ d → d < n → (d < x) × (agreed f g (suc d) ≡ true)

pub record Further (f : ℕ → ℕ) (w : ℕ) (g : ℕ → ℕ) (x m n : ℕ) : Type 0 where
  pub far : Far f w g x m n
  pub ends : n < w → n < x → agreed f g (suc n) ≡ false

pub record Shared (G : Graph) (R : Regs) (e n m : ℕ) : Type 0 where
  pub within : m ≤ R.count e
  pub each : (d : ℕ) → d < R.count e → shared_below G R e d n ≡ ltb d m

pub record Counted (net : Netlist) (n total : ℕ) (rails : List ℕ) : Type 0 where
  pub node : (u : ℕ) → u < net.nodes → at rails u ≡ sum (λ e. cond (eqb ((graph_of net).src e) u) (paid_on (graph_of net) (regs_of net) e) 0) n
  pub all : total ≡ sum (paid_on (graph_of net) (regs_of net)) n

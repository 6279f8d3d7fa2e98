-- What is said of a record's wires is said of its columns, and the other way round.
--   of_wires, to_wires  of the numbers of nodes and edges, and of the two columns of ends
use mathlib.Core.List.{List}
use Prim.Native.Nat.{ℕ}
use Rattle.graph.specs.declared.wires.Wires.{Wires}
use Rattle.netlist.specs.declared.Netlist.{Netlist}
use Rattle.netlist.specs.inner.Wiring.{WiresOf}

module _ {net : Netlist} {w : Wires} (k : WiresOf net w) (P : ℕ → ℕ → List ℕ → List ℕ → Type 0) where
  pub of_wires : P w.nodes w.edges w.from.now w.to.now → P net.nodes net.edges net.from net.to
  of_wires p = rw (k.nodes, k.edges, k.from, k.to) at p

  pub to_wires : P net.nodes net.edges net.from net.to → P w.nodes w.edges w.from.now w.to.now
  to_wires p = rw (k.nodes, k.edges, k.from, k.to) p

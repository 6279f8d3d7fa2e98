-- The wires of a record.
--   WiresOf net w       w has the nodes and edges of net
use Rattle.std.specs.Prelude.{◌≡◌}
use Rattle.graph.specs.declared.wires.Wires.{Wires}
use Rattle.netlist.specs.declared.Netlist.{Netlist}

pub record WiresOf (net : Netlist) (w : Wires) : Type 0 where
  pub nodes : w.nodes ≡ net.nodes
  pub edges : w.edges ≡ net.edges
  pub from : w.from.now ≡ net.from
  pub to : w.to.now ≡ net.to

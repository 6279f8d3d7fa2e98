-- Wires as the theory's graph.
--   wires_graph kind w  the graph of the wires, with these gate kinds
use Rattle.std.specs.Prelude.{List, ℕ}
use Rattle.theory.specs.Graph.{Graph}
use Rattle.graph.specs.declared.wires.Wires.{Wires}
use Rattle.graph.specs.Columns.{column_graph}

abbrev pub wires_graph : List ℕ → Wires → Graph
wires_graph kind w = column_graph w.nodes w.edges kind w.from.now w.to.now

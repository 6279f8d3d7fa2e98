-- `graph::layers::Layer::pass` meets its contract: the marks have spread from the nodes at the places passed (`pass_leaves`),
-- and none of these was marked by the pass itself.
use Rattle.std.proofs.Common.{◌≤◌}
use Rattle.graph.specs.inner.Layers.{Spread}
use Rattle.graph.proofs.Spread.{Fed}
use Rattle.graph.proofs.layers.Layer.pass.Given as goal

abbrev pub invariant-loop-i : goal.invariant-loop-i
invariant-loop-i l = (l.i ≤ l.initial.self.hi) × Spread l.wires.nodes (Fed l.wires l.initial.self.queue l.initial.self.lo l.i) l.initial.self l.self

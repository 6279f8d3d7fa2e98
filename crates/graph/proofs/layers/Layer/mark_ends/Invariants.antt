-- `graph::layers::Layer::mark_ends` meets its contract: the marks have spread to the ends of the edges passed.
use Rattle.graph.specs.inner.Layers.{EndOf, Spread}
use Rattle.graph.proofs.layers.Layer.mark_ends.Given as goal

abbrev pub invariant-loop-e : goal.invariant-loop-e
invariant-loop-e l = Spread l.wires.nodes (EndOf l.wires.to.now l.links l.e-index) l.initial.self l.self

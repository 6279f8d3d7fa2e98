-- `graph::layers::Layer::first` meets its contract: of the nodes below v those of the kind are marked.
use Rattle.graph.specs.inner.Layers.{Spread}
use Rattle.graph.proofs.Spread.{PinBelow}
use Rattle.graph.proofs.layers.Layer.first.Given as goal

abbrev pub invariant-loop-v : goal.invariant-loop-v
invariant-loop-v l = Spread l.wires.nodes (PinBelow l.kind l.pin l.v) l.initial.layer l.layer

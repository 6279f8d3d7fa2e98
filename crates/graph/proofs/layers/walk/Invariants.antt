-- `graph::layers::walk` meets its contract: after each pass those are marked that are reached over so many edges.
-- The measure is what is left of the nodes past `lo`: a pass moves it up to `hi`.
use Rattle.std.proofs.Common.{◌-◌, ◌≤◌}
use Rattle.graph.specs.inner.Layers.{AfterPasses}
use Rattle.graph.proofs.layers.walk.Given as goal

abbrev pub invariant-loop-layer : goal.invariant-loop-layer
invariant-loop-layer l = AfterPasses l.wires l.kind l.pin l.layer × (l.layer.passes ≤ l.most)

abbrev pub decreases-loop-layer : goal.decreases-loop-layer
decreases-loop-layer l = l.wires.nodes - l.layer.lo

-- `graph::layers::walk` meets its contract: after each pass those are marked that are reached over so many edges.
use Rattle.std.proofs.Common.{arith}
use Rattle.graph.proofs.Spread.{queued_few}
use Rattle.graph.proofs.Passes.{after_pass}
use Rattle.graph.proofs.layers.walk.Goals as goal

pub loop-layer-smaller : goal.loop-layer-smaller
loop-layer-smaller c = omega (arith, c.pass.ensures.goes_on, queued_few c.loop-layer.invariant.0.steady.queued)

pub loop-layer-preserved : goal.loop-layer-preserved
loop-layer-preserved c = (after_pass _ _ c.loop-layer.invariant.0 c.loop-layer-test.true c.pass.ensures, omega (arith, c.pass.ensures.passes))

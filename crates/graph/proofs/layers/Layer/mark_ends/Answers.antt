-- `graph::layers::Layer::mark_ends` meets its contract: the marks have spread to the ends of the edges passed.
use Rattle.std.proofs.Common.{arith}
use Rattle.graph.proofs.Spread.{mark_room, spread_mark, ends_turn}
use Rattle.graph.proofs.layers.Layer.mark_ends.Goals as goal

pub mark-requires : goal.mark-requires
mark-requires c =
    let w = c.args.wires in
    let inside = w.laid.to_in _ (c.requires.1 c.loop-e.e-index 0 c.loop-e-test.true) in
    (omega (arith, inside, w.laid.nodes_fit), λ e. omega (arith, mark_room inside c.loop-e.invariant.queued e, w.laid.nodes_fit))

pub loop-e-preserved : goal.loop-e-preserved
loop-e-preserved c =
    let s = c.loop-e.invariant in
    ends_turn s (rw c.mark.ensures (spread_mark (c.args.wires.laid.to_in _ (c.requires.1 c.loop-e.e-index 0 c.loop-e-test.true)) s.queued))

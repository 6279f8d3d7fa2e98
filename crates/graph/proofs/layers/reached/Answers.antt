-- `graph::layers::reached` meets its contract: no more passes are made than there are nodes, so the last one marked nothing.
use Rattle.std.proofs.Common.{arith}
use Rattle.graph.proofs.Spread.{queued_few}
use Rattle.graph.proofs.Passes.{reached_told}
use Rattle.graph.proofs.layers.reached.Goals as goal

pub returns : goal.returns
returns c =
    let r = c.walk.ensures in
    let s = r.after.steady in
    reached_told _ r.after (r.ended (omega (arith, s.few, s.low, queued_few s.queued)))

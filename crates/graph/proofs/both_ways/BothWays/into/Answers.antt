-- `graph::both_ways::BothWays::into` meets its contract: `sorts_of`.
use Rattle.std.proofs.Common.{arith}
use Rattle.graph.proofs.ByNode.{sorts_of}
use Rattle.graph.proofs.both_ways.BothWays.into.Goals as goal

pub returns : goal.returns
returns c =
    let w = c.args.self.now in
    let f = w.wires.laid in
    rw c.of.ensures (sorts_of _ _ _ f.to_in (omega (arith, f.edges_fit)) w.entering c.args.v c.requires)

-- `graph::both_ways::BothWays::out_of` meets its contract: `sorts_of`.
use Rattle.std.proofs.Common.{arith}
use Rattle.graph.proofs.ByNode.{sorts_of}
use Rattle.graph.proofs.both_ways.BothWays.out_of.Goals as goal

pub returns : goal.returns
returns c =
    let w = c.args.self.now in
    let f = w.wires.laid in
    rw c.of.ensures (sorts_of _ _ _ f.from_in (omega (arith, f.edges_fit)) w.leaving c.args.u c.requires)

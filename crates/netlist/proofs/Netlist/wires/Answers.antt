-- Lines that are right lay the columns out.
use Rattle.std.proofs.Common.{rules}
use Rattle.netlist.proofs.Lowest.{laid}
use Rattle.netlist.proofs.Netlist.wires.Goals as goal

pub invariant_of-result : goal.invariant_of-result
invariant_of-result c = record { laid = laid c.args.self.now c.requires (search rules) (search rules) }

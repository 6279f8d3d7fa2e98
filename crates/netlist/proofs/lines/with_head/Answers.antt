-- `netlist::lines::with_head` meets its contract.
use Rattle.std.proofs.Common.{refl}
use Rattle.netlist.specs.Net.{zeros, with_head}
use Rattle.netlist.proofs.lines.with_head.Goals as goal

pub returns : goal.returns
unfolding with_head zeros
returns c = refl

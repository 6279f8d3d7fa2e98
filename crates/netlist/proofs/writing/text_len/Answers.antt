-- `netlist::writing::text_len` meets its contract, by the lengths of the lines.
use Rattle.std.proofs.Common.{arith}
use Rattle.netlist.proofs.Written.{text_length}
use Rattle.netlist.proofs.writing.text_len.Goals as goal

pub returns : goal.returns
returns c = omega (arith, text_length c.args.net)

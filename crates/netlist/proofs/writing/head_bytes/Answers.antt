-- `netlist::writing::head_bytes` meets its contract: each byte is the definition's, and one of a byte is itself.
use Rattle.std.proofs.Common.{arith}
use Rattle.frame.proofs.Numbers.{code_one, code_two}
use Rattle.netlist.proofs.writing.head_bytes.Goals as goal

pub returns : goal.returns
returns c =
    rw (c.to_be_bytes-p.ensures, c.to_be_bytes-n.ensures, c.to_be_bytes-e.ensures, ← code_two c.args.period, code_one c.args.derate (omega arith), ← code_two c.args.nodes, ← code_two c.args.edges)

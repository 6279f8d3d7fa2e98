-- `netlist::writing::edge_bytes` meets its contract: each byte is the definition's, and one of a byte is itself.
use Rattle.std.proofs.Common.{arith}
use Rattle.graph.specs.Columns.{at}
use Rattle.frame.proofs.Numbers.{code_one, code_two, code_four}
use Rattle.netlist.proofs.writing.edge_bytes.Goals as goal

pub returns : goal.returns
returns c =
    rw (c.to_be_bytes-u.ensures, c.to_be_bytes-v.ensures, c.to_be_bytes-s.ensures, ← code_two (at c.args.net.now.from c.args.e), ← code_two (at c.args.net.now.to c.args.e), code_one (at c.args.net.now.count c.args.e) (omega arith), ← code_four (at c.args.net.now.start c.args.e))

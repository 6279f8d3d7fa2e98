-- `printing::fronts::put_front` meets its contract: a line has two digits for each byte and the line feed.
use Rattle.std.proofs.Common.{◌+◌, ◌*◌, length, arith}
use borrow.Author.Tests.{lt-leb, le-leb}
use Rattle.frame.proofs.Laws.{length_line}
use Rattle.printing.proofs.fronts.put_front.Goals as goal

pub returns-then-out-len-clause-value : goal.returns-then-out-len-clause-value
returns-then-out-len-clause-value c =
    let l = length_line c.args.bytes.now in
    rw (l, lt-leb (2 * length c.args.bytes.now + 1) (length c.args.out.now) (omega arith))

pub returns-else-out-len-clause-value : goal.returns-else-out-len-clause-value
returns-else-out-len-clause-value c =
    let l = length_line c.args.bytes.now in
    rw (l, le-leb (2 * length c.args.bytes.now + 1) (length c.args.out.now) (omega arith))

-- `solve::solve_lists` meets its contract: columns of both lengths do.
use Rattle.std.proofs.Common.{suc, length, ap, arith}
use Rattle.std.proofs.lemmas.List.{length-take-le}
use Rattle.search.specs.inner.Program.{total_of}
use Rattle.search.proofs.Putting.{climb}
use Rattle.solve.proofs.solve_lists.Goals as goal

pub solve_in-requires-clause-room : goal.solve_in-requires-clause-room
solve_in-requires-clause-room c =
    let p = c.args.problem in
    let cells = length p.program.kind.now in
    let up = climb p.program.first.now cells p.program.right.rising in
    let size = length-take-le (total_of p.owed.begin.now) p.owed.due.now p.owes.due_rows in
    (omega arith, omega arith, λ i h. omega (arith, up (suc i) cells h (omega arith)), omega (arith, size, ap length c.dues.ensures))

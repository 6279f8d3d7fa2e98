-- `search::program::Problem::row` meets its contract: a row ends where the next one begins, or before.
use Rattle.std.proofs.Common.{◌+◌, arith}
use Rattle.search.specs.inner.Program.{rows_of}
use Rattle.search.proofs.Putting.{climb}
use Rattle.search.proofs.program.Problem.row.Goals as goal

pub slice_bounds-result-end : goal.slice_bounds-result-end
slice_bounds-result-end c =
    let o = c.args.self.owes in
    let n = rows_of c.args.self.owed.begin.now in
    omega (arith, o.rising c.args.e c.requires, climb c.args.self.owed.begin.now n (λ m h. (o.rising m h).0) (c.args.e + 1) n (omega arith) (omega arith), o.due_rows)

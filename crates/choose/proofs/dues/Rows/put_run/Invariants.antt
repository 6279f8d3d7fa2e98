-- `choose::dues::Rows::put_run` meets its contract: the dues of this run's clocks are put, of the edges before this one.
use Rattle.std.proofs.Common.{◌+◌, ◌≤◌}
use Rattle.search.specs.inner.Program.{rows_of}
use Rattle.choose.specs.inner.Numbers.{lag_at}
use Rattle.choose.specs.inner.Dues.{DuesTo}
use Rattle.choose.proofs.dues.Rows.put_run.Given as goal

abbrev pub invariant-loop-e : goal.invariant-loop-e
invariant-loop-e l =
    (rows_of l.self.begin ≤ rows_of l.initial.self.begin + l.e-index)
    × DuesTo l.fn.of.task.now.of.net.now (lag_at l.fn.of.task.now.of.lab.now) l.fn.of.id l.along l.run.low l.run.high l.e-index l.self.due l.self.begin

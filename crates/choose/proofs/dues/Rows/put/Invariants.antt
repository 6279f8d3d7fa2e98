-- `choose::dues::Rows::put` meets its contract: the dues of all clocks below `low` are put.
use Rattle.std.proofs.Common.{◌-◌, ◌≤◌}
use Rattle.search.specs.inner.Program.{rows_of}
use Rattle.choose.specs.inner.Numbers.{lag_at}
use Rattle.choose.specs.inner.Dues.{DuesTo, FewRows}
use Rattle.choose.proofs.dues.Rows.put.Given as goal

abbrev pub invariant-loop-low : goal.invariant-loop-low
invariant-loop-low l =
    (l.low ≤ 24) × FewRows l.low (rows_of l.self.begin)
    × DuesTo l.fn.of.task.now.of.net.now (lag_at l.fn.of.task.now.of.lab.now) l.fn.of.id l.along l.low l.low 0 l.self.due l.self.begin

abbrev pub decreases-loop-low : goal.decreases-loop-low
decreases-loop-low l = 24 - l.low

-- `search::rows::DueRows::push_level` meets its contract: the rows of the edges below e are put.
use Rattle.std.proofs.Common.{◌≡◌, ◌++◌, take}
use Rattle.graph.specs.Columns.{at}
use Rattle.search.specs.inner.Rows.{of_level}
use Rattle.search.proofs.rows.DueRows.push_level.Given as goal

abbrev pub invariant-loop-e : goal.invariant-loop-e
invariant-loop-e g l = record {
  problem : l.self.problem ≡ l.fn.self.problem;
  level : l.self.level ≡ l.fn.self.level;
  written : l.self.row ≡ l.fn.self.row ++ of_level l.fn.self.level.now l.m (take (at l.problem.owed.begin.now l.e) l.problem.owed.due.now);
}

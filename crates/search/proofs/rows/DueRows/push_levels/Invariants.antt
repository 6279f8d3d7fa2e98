-- `search::rows::DueRows::push_levels` meets its contract: the rows of the levels below m are put.
use Rattle.std.proofs.Common.{◌≡◌}
use Rattle.search.specs.inner.Program.{total_of}
use Rattle.search.proofs.Putting.{Ranking}
use Rattle.search.proofs.rows.DueRows.push_levels.Given as goal

abbrev pub invariant-loop-m : goal.invariant-loop-m
invariant-loop-m g l = record {
  problem : l.self.problem ≡ l.fn.self.problem;
  level : l.self.level ≡ l.fn.self.level;
  ranking : Ranking l.fn.self.level.now l.fn.self.problem.owed.due.now (total_of l.fn.self.problem.owed.begin.now) l.self.row l.rows l.m;
}

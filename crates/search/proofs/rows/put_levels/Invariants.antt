-- `search::rows::put_levels` meets its contract: the cells of the levels below m have their levels.
use Rattle.std.proofs.Common.{ℕ, ◌<◌}
use Rattle.graph.specs.Columns.{at}
use Rattle.search.specs.inner.Program.{rows_of}
use Rattle.search.specs.inner.Rows.{Level}
use Rattle.search.proofs.rows.put_levels.Given as goal

abbrev pub invariant-loop-m : goal.invariant-loop-m
invariant-loop-m l = (j : ℕ) → j < at l.levels l.m → Level l.levels (rows_of l.levels) j (at l.level j)

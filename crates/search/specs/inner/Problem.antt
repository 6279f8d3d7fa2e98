-- What is searched, as the code holds it.
--   columns_of p        the columns of a program
--   SolvesProblem p best     the best list that fulfils, or that none does
use Rattle.std.specs.Prelude.{Option, ℕ}
use Rattle.search.specs.declared.program.Program.{Program}
use Rattle.search.specs.declared.program.Problem.{Problem}
use Rattle.search.specs.inner.Program.{Program as Columns, program_of, total_of, SolvesLists}

abbrev pub columns_of : Program → Columns
columns_of p = program_of p.kind.now p.first.now p.operand.now

abbrev pub SolvesProblem : Problem → Option ℕ → Type 0
SolvesProblem p best = SolvesLists p.program.bits (columns_of p.program) p.owed.due.now (total_of p.owed.begin.now) p.fill.now best

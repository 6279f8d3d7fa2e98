-- `solve::renumber::renumber` meets its contract: the first q cells are copied.
use Rattle.search.specs.inner.Program.{program_of}
use Rattle.search.specs.inner.Problem.{columns_of}
use Rattle.solve.specs.inner.Numbers.{ProgramRenumbered}
use Rattle.solve.proofs.renumber.renumber.Given as goal

abbrev pub invariant-loop-q : goal.invariant-loop-q
invariant-loop-q g l = ProgramRenumbered l.q (columns_of l.program) l.id l.code (program_of l.to.kind l.to.first l.to.operand)

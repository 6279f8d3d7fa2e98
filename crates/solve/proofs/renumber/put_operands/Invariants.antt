-- `solve::renumber::put_operands` meets its contract: the first t operands are put.
use Rattle.std.proofs.Common.{◌≡◌, ℕ, ◌<◌}
use Rattle.graph.specs.Columns.{at}
use Rattle.solve.specs.inner.Numbers.{renumbered}
use Rattle.solve.proofs.renumber.put_operands.Given as goal

abbrev pub invariant-loop-t : goal.invariant-loop-t
invariant-loop-t l = (j : ℕ) → j < l.t → at l.operand j ≡ renumbered l.id (at l.operands j)

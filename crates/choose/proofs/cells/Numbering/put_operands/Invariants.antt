-- `choose::cells::Numbering::put_operands` meets its contract: the first k operands are put.
use Rattle.std.proofs.Common.{◌≡◌}
use Rattle.graph.specs.Columns.{at}
use Rattle.graph.specs.inner.Lists.{Appended}
use Rattle.choose.specs.inner.Sources.{source_at}
use Rattle.choose.proofs.cells.Numbering.put_operands.Given as goal

abbrev pub invariant-loop-k : goal.invariant-loop-k
invariant-loop-k l =
    (l.to.kind ≡ l.initial.to.kind) × (l.to.first ≡ l.initial.to.first)
    × Appended (λ k. source_at l.self.task.now.of.net.now.from l.self.task.now.counts.now l.self.task.now.base.now l.self.id l.cell.clock (at l.cell.sees.now k)) l.initial.to.operand l.to.operand 0 l.k l.start

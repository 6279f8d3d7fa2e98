-- `choose::cells::Numbering::wire` meets its contract: the cells below i are put.
use Rattle.std.proofs.Common.{◌≡◌, ℕ, ◌/◌, ◌<◌}
use Rattle.graph.specs.Columns.{at}
use Rattle.choose.specs.inner.Sources.{Operands}
use Rattle.choose.proofs.cells.Numbering.wire.Given as goal

abbrev pub invariant-loop-i : goal.invariant-loop-i
invariant-loop-i l =
    ((j : ℕ) → j < l.i → at l.to.kind j ≡ at l.self.task.now.of.net.now.kind (at l.self.code j / 32))
    × Operands l.self.task.now.of.net.now.from l.ins.list l.ins.begin l.self.task.now.counts.now l.self.task.now.base.now l.self.id l.self.code l.i l.to.first l.to.operand

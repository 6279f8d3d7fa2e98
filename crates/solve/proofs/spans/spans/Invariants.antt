-- `solve::spans::spans` meets its contract: the cells before i have their spans, and `spans_more` is a turn.
use Rattle.std.proofs.Common.{◌≡◌, length}
use Rattle.solve.specs.inner.Parts.{Spans}
use Rattle.solve.proofs.spans.spans.Given as goal

abbrev pub invariant-loop-i : goal.invariant-loop-i
invariant-loop-i g l = (length l.span ≡ g.row.CELLS) × Spans l.program.bits l.program.first.now l.program.operand.now l.span l.i

-- `solve::numbers::Numbers::number_cell` meets its contract: the stack's cells wait for their numbers. A push lowers the top of the stack, which is
-- an earlier cell then, and a pop gives a number: that is the measure.
use Rattle.std.proofs.Common.{◌≡◌, ◌+◌, ◌-◌, ◌*◌, ◌<◌, length}
use Rattle.graph.specs.Columns.{at}
use Rattle.solve.specs.inner.Numbers.{Waiting}
use Rattle.solve.specs.inner.Numbering.{Further}
use Rattle.solve.proofs.numbers.Numbers.number_cell.Given as goal

abbrev pub invariant-loop-h : goal.invariant-loop-h
invariant-loop-h g l = record {
  further : Further l.initial.self l.self;
  level : l.self.level ≡ l.initial.self.level;
  waiting : Waiting l.self.level l.h l.i l.self.span.now l.self.id l.self.stack;
  done : l.h ≡ 0 → at l.self.id l.i < length l.self.code;
}

abbrev pub decreases-loop-h : goal.decreases-loop-h
decreases-loop-h g l = (12288 - length l.self.code) * 65536 + at l.self.stack (l.h - 1)

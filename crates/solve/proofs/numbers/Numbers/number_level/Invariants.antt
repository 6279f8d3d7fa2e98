-- `solve::numbers::Numbers::number_level` meets its contract: each turn numbers further, and the cells of the level that were passed have their numbers.
use Rattle.std.proofs.Common.{◌≡◌, ℕ, ◌<◌, length}
use Rattle.graph.specs.Columns.{at}
use Rattle.solve.specs.inner.Numbering.{Further}
use Rattle.solve.proofs.numbers.Numbers.number_level.Given as goal

abbrev pub invariant-loop-x : goal.invariant-loop-x
invariant-loop-x g l = Further l.initial.self l.self × (l.self.level ≡ l.initial.self.level)

abbrev pub invariant-loop-i : goal.invariant-loop-i
invariant-loop-i g l = record {
  further : Further l.fn.self l.self;
  level : l.self.level ≡ l.fn.self.level;
  done : (j : ℕ) → j < l.i → at l.self.span.now j ≡ l.self.level → at l.self.id j < length l.self.code;
}

-- `solve::numbers::Numbers::number_levels` meets its contract: at level m the cells of lower levels have their numbers, and no others.
use Rattle.std.proofs.Common.{◌≡◌, ℕ, ◌<◌, length}
use Rattle.graph.specs.Columns.{at}
use Rattle.solve.specs.inner.Numbers.{LevelsBegun}
use Rattle.solve.proofs.numbers.Numbers.number_levels.Given as goal

abbrev pub invariant-loop-m : goal.invariant-loop-m
invariant-loop-m g l = record {
  program : l.self.program ≡ l.fn.self.program;
  span : l.self.span ≡ l.fn.self.span;
  level : l.self.level ≡ l.m;
  rows : length l.levels ≡ 26;
  begun : LevelsBegun l.m (length l.self.code) l.self.span.now l.self.code l.levels;
  low : (q : ℕ) → q < length l.self.code → at l.self.span.now (at l.self.code q) < l.m;
}

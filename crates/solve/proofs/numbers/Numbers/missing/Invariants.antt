-- `solve::numbers::Numbers::missing` meets its contract: no operand that was passed is such a cell.
use Rattle.std.proofs.Common.{◌≡◌, ℕ, ◌-◌, ◌≤◌, ◌<◌}
use Rattle.graph.specs.Columns.{at}
use Rattle.solve.proofs.numbers.Numbers.missing.Given as goal

abbrev pub invariant-loop-x : goal.invariant-loop-x
invariant-loop-x g l =
    (t : ℕ) → t < l.x-index → 32 ≤ at l.x-items t → at l.self.span.now (at l.x-items t - 32) ≡ at l.self.span.now l.i → ¬ (at l.self.id (at l.x-items t - 32) ≡ 12288)

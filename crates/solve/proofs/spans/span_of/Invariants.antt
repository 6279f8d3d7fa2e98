-- `solve::spans::span_of` meets its contract: `most` is the most of the operands that were passed.
use Rattle.std.proofs.Common.{ℕ, ◌≤◌, ◌<◌, length}
use Rattle.graph.specs.Columns.{at}
use Rattle.solve.specs.inner.Parts.{depth}
use Rattle.solve.proofs.spans.span_of.Given as goal

abbrev pub invariant-loop-x : goal.invariant-loop-x
invariant-loop-x l =
    ((j : ℕ) → j < l.x-index → depth l.span (at l.operands j) ≤ l.most)
    × ((b : ℕ) → ((j : ℕ) → j < length l.operands → depth l.span (at l.operands j) ≤ b) → l.most ≤ b)

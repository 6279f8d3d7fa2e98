-- `search::choices::evaluate` meets its contract: the cells below i are evaluated, under whatever choice those below `start` were.
use Rattle.std.proofs.Common.{◌+◌, ◌-◌, ◌≤◌}
use Rattle.search.specs.inner.Problem.{columns_of}
use Rattle.search.specs.inner.States.{GoesOn}
use Rattle.search.proofs.choices.evaluate.Given as goal

-- Where `end` is not above `start`, i stays there.
abbrev pub invariant-loop-i : goal.invariant-loop-i
invariant-loop-i l = GoesOn l.cells.program.bits (columns_of l.cells.program) l.start l.initial.sig l.i l.sig × (l.i ≤ l.start + (l.end - l.start))

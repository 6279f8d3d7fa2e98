-- `search::choices::best_list` meets its contract. All three loops keep the search's state; the inner two change the choice only where they leave for the outer
-- one. Each turn is a law of proofs/States.
use Rattle.std.proofs.Common.{◌≡◌, ◌-◌}
use Rattle.search.specs.inner.Problem.{columns_of}
use Rattle.search.proofs.States.{Searching}
use Rattle.search.proofs.choices.best_list.Given as goal

abbrev pub invariant-loop-turn-2 : goal.invariant-loop-turn-2
invariant-loop-turn-2 l = (l.turn.choice ≡ l.initial.turn.choice) × Searching l.cells.program.bits l.e (columns_of l.cells.program) l.rows.row.now l.fill l.best l.turn.choice l.turn.cell l.sig l.turn.due

abbrev pub decreases-loop-turn-2 : goal.decreases-loop-turn-2
decreases-loop-turn-2 l = l.end - l.turn.due

abbrev pub invariant-loop-turn : goal.invariant-loop-turn
invariant-loop-turn l = (l.turn.choice ≡ l.initial.turn.choice) × Searching l.cells.program.bits l.e (columns_of l.cells.program) l.rows.row.now l.fill l.best l.turn.choice l.turn.cell l.sig l.turn.due

abbrev pub decreases-loop-turn : goal.decreases-loop-turn
decreases-loop-turn l = l.e.dues - l.turn.due

abbrev pub invariant-search : goal.invariant-search
invariant-search l = Searching l.cells.program.bits l.e (columns_of l.cells.program) l.rows.row.now l.fill l.best l.turn.choice l.turn.cell l.sig l.turn.due

abbrev pub decreases-search : goal.decreases-search
decreases-search l = l.e.limit - l.turn.choice

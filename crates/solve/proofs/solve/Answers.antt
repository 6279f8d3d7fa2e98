-- `solve::solve` meets its contract: nothing is filled, so a list is a choice.
use Rattle.search.proofs.Solved.{solves_choice}
use Rattle.solve.proofs.solve.Goals as goal

pub returns : goal.returns
returns c = solves_choice _ _ _ _ c.solve_lists.result c.solve_lists.ensures

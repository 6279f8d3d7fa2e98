-- `search::choices::prefers` meets its contract: the smaller list is taken.
use Rattle.std.proofs.Common.{rules}
use Rattle.theory.specs.Move.{Prefers}
use Rattle.search.proofs.choices.prefers.Goals as goal

pub returns : goal.returns
unfolding Prefers
returns c = search rules

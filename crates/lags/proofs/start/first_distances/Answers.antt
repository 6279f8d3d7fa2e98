-- `lags::start::first_distances` meets its contract.
use Rattle.std.proofs.Common.{arith}
use Rattle.std.proofs.lemmas.Bool.Decides.{nat_tests}
use Rattle.lags.specs.inner.Starts.{start_of}
use Rattle.lags.proofs.start.first_distances.Goals as goal

pub returns : goal.returns
unfolding start_of
returns c v h = let k = c.column.ensures.made_of v h in grind (arith, nat_tests)

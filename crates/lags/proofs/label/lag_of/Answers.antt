-- `lags::label::lag_of` meets its contract.
use Rattle.std.proofs.Common.{arith}
use Rattle.std.proofs.lemmas.Int.{ints}
use Rattle.lags.specs.inner.Lags.{lag_of}
use Rattle.lags.proofs.label.lag_of.Goals as goal

pub returns : goal.returns
unfolding lag_of
returns c = omega (arith, ints)

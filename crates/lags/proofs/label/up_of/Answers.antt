-- `lags::label::up_of` meets its contract.
use Rattle.std.proofs.Common.{arith}
use Rattle.lags.proofs.Laws.{lag_up}
use Rattle.lags.proofs.label.up_of.Goals as goal

pub returns : goal.returns
returns c = omega (arith, lag_up c.args.label)

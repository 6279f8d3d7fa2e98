-- `lags::times::working_delays` meets its contract.
use Rattle.std.proofs.Common.{rules}
use Rattle.lags.proofs.times.working_delays.Goals as goal

pub returns : goal.returns
returns c = record { exact = λ v h. let k = c.column.ensures.made_of v h in search rules; small = λ v h. let k = c.column.ensures.made_of v h in search rules }

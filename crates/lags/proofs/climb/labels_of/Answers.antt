-- `lags::climb::labels_of` meets its contract.
use Rattle.std.proofs.Common.{rules}
use Rattle.lags.proofs.climb.labels_of.Goals as goal

pub returns : goal.returns
returns c v h = let k = c.column.ensures.made_of v h in search rules

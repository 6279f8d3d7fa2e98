-- `lags::order::registers_under` meets its contract.
use Rattle.std.proofs.Common.{rules}
use Rattle.lags.proofs.order.registers_under.Goals as goal

pub returns : goal.returns
returns c e h = let k = c.column.ensures.made_of e h in search rules

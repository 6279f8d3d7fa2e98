-- `simulate::plan::signals_of` meets its contract: each signal is made of its edge.
use Rattle.std.proofs.Common.{rules}
use Rattle.simulate.proofs.plan.signals_of.Goals as goal

pub returns : goal.returns
returns c k h = let e = c.column.ensures.made_of k h in search rules

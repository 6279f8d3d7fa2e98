-- `gates::truth::truths` meets its contract: each word is made of its gate's kind and number of inputs.
use Rattle.std.proofs.Common.{rules}
use Rattle.gates.proofs.truth.truths.Goals as goal

pub returns : goal.returns
returns g c i h = let e = c.column.ensures.made_of i h in search rules

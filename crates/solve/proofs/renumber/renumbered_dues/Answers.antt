-- `solve::renumber::renumbered_dues` meets its contract: each due is of the same cell under its new number.
use Rattle.std.proofs.Common.{arith}
use Rattle.solve.proofs.renumber.renumbered_dues.Goals as goal

pub returns : goal.returns
returns g c = λ x h. let k = c.column.ensures.made_of x h in omega (arith, k)

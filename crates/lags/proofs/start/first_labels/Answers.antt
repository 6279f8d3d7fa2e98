-- `lags::start::first_labels` meets its contract.
use Rattle.std.proofs.Common.{arith}
use Rattle.lags.proofs.start.first_labels.Goals as goal

pub returns : goal.returns
returns c = record {
  far = c.distances-far.result;
  measured = c.distances-far.ensures;
  labels = λ v h. let k = c.column.ensures.made_of v h in omega (arith, c.distances-far.ensures.ways.low v h);
}

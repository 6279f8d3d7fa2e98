-- `graph::order::looped` meets its contract: `found_told`.
use Rattle.graph.proofs.Evaluation.{found_told}
use Rattle.graph.proofs.order.looped.Goals as goal

pub returns : goal.returns
returns c = found_told c.order_of.ensures

-- `graph::order::evaluation_order` meets its contract: `found_ordered`.
use Rattle.graph.proofs.Evaluation.{found_ordered}
use Rattle.graph.proofs.order.evaluation_order.Goals as goal

pub returns : goal.returns
returns c = found_ordered c.order_of.ensures c.requires.by_index

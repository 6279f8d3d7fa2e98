-- `graph::order::Placing::new` meets its contract: `stage_none`.
use Rattle.std.proofs.Common.{refl, rules}
use Rattle.graph.proofs.Stage.{stage_none}
use Rattle.graph.proofs.order.Placing.new.Goals as goal

pub returns : goal.returns
returns c = (stage_none c.args.both.now c.column.result (search rules) (λ e h. let k = c.column.ensures.made_of e h in search rules), refl)

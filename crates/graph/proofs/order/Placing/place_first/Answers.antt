-- `graph::order::Placing::place_first` meets its contract: the nodes below v are tried.
use Rattle.std.proofs.Common.{◌+◌, arith}
use Rattle.graph.proofs.Stage.{stage_tried, tried_waiting}
use Rattle.graph.proofs.order.Placing.place_first.Goals as goal

pub loop-v-preserved : goal.loop-v-preserved
loop-v-preserved c =
    let i = c.loop-v.invariant in
    let v = c.loop-v.v in
    (stage_tried i.0 v c.loop-v-test.true c.place.ensures, tried_waiting i.0 v c.loop-v-test.true (v + 1) (λ w l n. i.1 w (omega arith)) c.place.ensures)

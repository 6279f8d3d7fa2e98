-- `graph::order::Placing::take` meets its contract: the edges that leave u at the places below e's are passed.
use Rattle.graph.proofs.Stage.{taken_closed, taken_reads, taken_more}
use Rattle.graph.proofs.order.Placing.take.Goals as goal

pub place-requires : goal.place-requires
place-requires c =
    let o = c.out_of-out.ensures in
    let t = c.loop-e.invariant in
    (taken_closed o t c.loop-e-test.true, (taken_reads o t c.loop-e-test.true).2)

pub loop-e-preserved : goal.loop-e-preserved
loop-e-preserved c = taken_more c.out_of-out.ensures c.loop-e.invariant c.loop-e-test.true c.place.ensures

-- `graph::order::Placing::take_all` meets its contract: the first i nodes of the order are taken.
use Rattle.std.proofs.Common.{arith}
use Rattle.graph.proofs.Stage.{stage_short}
use Rattle.graph.proofs.order.Placing.take_all.Goals as goal

pub offset_bounds-self-i : goal.offset_bounds-self-i
offset_bounds-self-i c = omega (arith, stage_short c.loop-i.invariant.stage)

pub bounds-self-i : goal.bounds-self-i
bounds-self-i c = omega (arith, stage_short c.loop-i.invariant.stage)

pub loop-i-smaller : goal.loop-i-smaller
loop-i-smaller c = omega (arith, stage_short c.loop-i.invariant.stage)

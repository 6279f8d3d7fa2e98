-- `graph::order::Placing::place` meets its contract.
use Rattle.std.proofs.Common.{arith}
use Rattle.graph.proofs.Stage.{stage_room}
use Rattle.graph.proofs.order.Placing.place.Goals as goal

pub offset_bounds-self-self : goal.offset_bounds-self-self
offset_bounds-self-self c = omega (arith, stage_room c.requires.0 c.args.v c.requires.1 c.if-self-v.false)

pub bounds-self-self : goal.bounds-self-self
bounds-self-self c = stage_room c.requires.0 c.args.v c.requires.1 c.if-self-v.false

pub overflow_add-self : goal.overflow_add-self
overflow_add-self c = omega (arith, stage_room c.requires.0 c.args.v c.requires.1 c.if-self-v.false)

-- The next node is late, or it is not.
use Rattle.std.proofs.Common.{◌<◌, arith, length-take}
use Rattle.std.proofs.lemmas.List.{get_or-take}
use Rattle.lags.proofs.Orders.{parts_none, parts_late, parts_rest}
use Rattle.lags.proofs.query.Query.parted.Goals as goal
use Rattle.lags.proofs.query.Query.parted.Goals.{then-self-time, else-self-time}

pub loop-v-init : goal.loop-v-init
loop-v-init c = rw (c.new-late.ensures, c.new-rest.ensures) (parts_none c.args.order.now c.args.time.now c.args.self.now.period)

pub loop-v-preserved : goal.loop-v-preserved
loop-v-preserved c =
    let a = c.args in
    let l = c.loop-v in
    let few : l.v-index < a.self.now.net.now.nodes = omega (arith, c.loop-v-test.true, length-take a.self.now.net.now.nodes a.order.now) in
    let same = get_or-take a.self.now.net.now.nodes a.order.now l.v-index 0 few in
    elim c.if-self-time.branch [
      | then-self-time w ↦
          rw (w.late-is, w.rest-is, w.push.ensures, same)
          (parts_late a.order.now a.time.now a.self.now.period l.v-index l.late l.rest l.invariant (rw same at w.if-self-time.true))
      | else-self-time w ↦
          rw (w.late-is, w.rest-is, w.push-else-self-time.ensures, same)
          (parts_rest a.order.now a.time.now a.self.now.period l.v-index l.late l.rest l.invariant (rw same at w.if-self-time.false))
    ]

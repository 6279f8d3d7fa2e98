-- The next node of the order has its time too; after the last node all have.
use Rattle.std.proofs.Common.{◌≤◌, length, arith}
use Rattle.lags.proofs.Arrivals.{basis_readable, time_low, time_next, time_end}
use Rattle.lags.proofs.Orders.{cut_order}
use Rattle.lags.proofs.Wires.{few_nodes, cut_in, cut_node, cut_all}
use Rattle.lags.proofs.query.Query.arrivals.Goals as goal

pub latest-best-requires : goal.latest-best-requires
latest-best-requires c =
    let h = cut_node _ _ c.requires.low.1.listed c.loop-v.v-index c.loop-v-test.true in
    (basis_readable c.requires.basis c.entering.ensures, c.requires.low.0 _ h)

pub later-requires : goal.later-requires
later-requires c =
    let b = c.requires.basis in
    let o = c.requires.low.1 in
    let l = c.loop-v in (
      time_low b (cut_order o) l.invariant (cut_in c.args.self.now.net.now _ l.v-index c.loop-v-test.true) c.entering.ensures c.latest-best.result c.latest-best.ensures,
      b.ground.delayed.small _ (cut_node _ _ o.listed l.v-index c.loop-v-test.true),
      b.period_small,
    )

pub loop-v-preserved : goal.loop-v-preserved
loop-v-preserved c =
    let l = c.loop-v in
    time_next c.requires.basis (cut_order c.requires.low.1) l.invariant (cut_in c.args.self.now.net.now _ l.v-index c.loop-v-test.true) c.entering.ensures c.latest-best.result c.latest-best.ensures
    c.later.result c.later.ensures

pub returns : goal.returns
returns c =
    let net = c.args.self.now.net.now in
    let rows : net.nodes ≤ length c.args.order.now = omega (arith, c.told-order, few_nodes net c.requires.basis.sure) in
    time_end c.requires.basis (cut_order c.requires.low.1) c.loop-v.invariant (cut_all net _ rows _ c.loop-v-test.false)

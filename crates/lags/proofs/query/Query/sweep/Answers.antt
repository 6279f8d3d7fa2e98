-- The next node keeps its mark, or takes another, or shows that no legal retiming meets the period; after the last node the marks rest.
use borrow.Author.Tests.{leb-true, leb-false}
use Rattle.std.proofs.Common.{subst, sym, ◌∙◌, arith}
use Rattle.netlist.specs.Net.{delay_of}
use Rattle.lags.specs.inner.Climb.{Takes}
use Rattle.lags.proofs.Sweeps.{floor_low, climb_askable, climb_low, climb_rests, climb_next, sweep_kept, sweep_moved, sweep_late, sweep_still}
use Rattle.lags.proofs.Wires.{few_nodes, cut_listed, cut_node, cut_all}
use Rattle.lags.proofs.query.Query.sweep.Goals as goal
use Rattle.lags.proofs.query.Query.sweep.Goals.{then-next-mark+else-is_pin+else-next-ge-TOP, else-is_pin-via-then-is_pin+else-next-ge-ABOVE, else-is_pin-via-else-is_pin, else-next-mark}

pub bounds-net-v : goal.bounds-net-v
bounds-net-v c =
    let w = c.requires.0 in
    let h = cut_node _ _ w.ground.nodes c.loop-v.v-index c.loop-v-test.true in
    omega (arith, h, few_nodes c.args.self.now.net.now w.sure)

pub asked-best-requires : goal.asked-best-requires
asked-best-requires c =
    (climb_askable c.requires.0 c.loop-v.mark c.loop-v.invariant.marked c.entering.ensures, omega (arith, c.floor_of.ensures, floor_low))

pub after-next-requires : goal.after-next-requires
after-next-requires c =
    let w = c.requires.0 in
    let l = c.loop-v in
    let h = cut_node _ _ w.ground.nodes l.v-index c.loop-v-test.true in (
      climb_low w l.mark l.invariant.marked _ h c.entering.ensures c.asked-best.result (rw c.floor_of.ensures at c.asked-best.ensures),
      w.ground.delayed.small _ h,
      w.period_small,
    )

pub returns-then-next-ge-ABOVE : goal.returns-then-next-ge-ABOVE
returns-then-next-ge-ABOVE c =
    let w = c.requires.0 in
    let l = c.loop-v in
    let h = cut_node _ _ w.ground.nodes l.v-index c.loop-v-test.true in
    sweep_late w l.mark l.invariant.marked _ h c.entering.ensures c.asked-best.result (rw c.floor_of.ensures at c.asked-best.ensures)
    c.after-next.result
    (rw (w.ground.delayed.exact _ h) at c.after-next.ensures)
    (leb-true _ 1 (sym c.is_pin.ensures ∙ c.if-is_pin.true))
    c.if-next-ge-ABOVE.true

pub loop-v-preserved : goal.loop-v-preserved
loop-v-preserved c =
    let w = c.requires.0 in
    let net = c.args.self.now.net.now in
    let l = c.loop-v in
    let m = l.invariant.marked in
    let h = cut_node _ _ w.ground.nodes l.v-index c.loop-v-test.true in
    let x = c.entering.ensures in
    let best = c.asked-best.result in
    let asks = rw c.floor_of.ensures at c.asked-best.ensures in
    let next = c.after-next.result in
    let takes = rw (w.ground.delayed.exact _ h) at c.after-next.ensures in
    elim c.if-next-mark.branch [
      | then-next-mark+else-is_pin+else-next-ge-TOP w' ↦
          rw (w'.mark-is, w'.changed-is) (sweep_moved l.invariant _ next (omega (arith, h, few_nodes net w.sure)) w'.if-next-ge-TOP.false
          (λ p. elim w'.else-is_pin.branch [ else-is_pin-via-then-is_pin+else-next-ge-ABOVE z ↦ omega arith | else-is_pin-via-else-is_pin z ↦ omega (arith, leb-false _ 1 (sym w'.is_pin.ensures ∙ z.if-is_pin.false)) ])
          (climb_next w l.mark m _ h x best asks next takes))
      | else-next-mark w' ↦
          rw (w'.mark-is, w'.changed-is) (sweep_kept l.invariant
          (climb_rests w l.mark m _ h x best asks
          (subst (Takes c.args.self.now.period (delay_of net _) best) w'.if-next-mark.false takes)))
    ]

pub returns-else-changed : goal.returns-else-changed
returns-else-changed c =
    let w = c.requires.0 in
    let net = c.args.self.now.net.now in
    sweep_still c.loop-v.invariant (cut_listed net _ w.ground.nodes) (cut_all net _ w.ground.order_rows _ c.loop-v-test.false) c.if-changed.false

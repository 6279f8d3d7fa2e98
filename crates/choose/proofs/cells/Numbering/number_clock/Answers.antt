-- `choose::cells::Numbering::number_clock` meets its contract: the cell at hand is numbered, or its clock is not below the lag.
use Rattle.std.proofs.Common.{◌+◌, ◌<◌, arith, subst}
use Rattle.choose.specs.declared.cells.Numbering.{Numbering}
use Rattle.choose.specs.inner.Numbers.{lag_at, CellsNumbered}
use Rattle.choose.proofs.Numbers.{numbered_miss, numbered_hit}
use Rattle.choose.proofs.Right.{low_lag}
use Rattle.choose.proofs.cells.Numbering.number_clock.Goals as goal
use Rattle.choose.proofs.cells.Numbering.number_clock.Goals.{then-t-up_of, else-t-up_of}

pub loop-v-preserved : goal.loop-v-preserved
loop-v-preserved c =
    let self = c.args.self.now in
    let l = c.loop-v in
    let task = self.task.now in
    let lag = lag_at task.of.lab.now in
    let order = self.order.now in
    let (same_task, same_order, before) = l.invariant in
    let next = λ (to : Numbering). CellsNumbered lag order c.args.t (l.v-index + 1) to.id to.code in
    elim c.if-t-up_of.branch [
      | then-t-up_of w ↦
          rw (w.self-is, w.push.ensures, w.len.ensures) (
            same_task,
            same_order,
            numbered_hit lag order c.args.t l.v-index l.self.id l.self.code before self.arranged
                (λ v h. low_lag task.of.labelled task.known v (omega (arith, self.whole))) c.loop-v-test.true
                (subst (λ x. c.args.t < x) c.up_of.ensures w.if-t-up_of.true),
          )
      | else-t-up_of w ↦ rw w.self-is
          (same_task, same_order, numbered_miss lag order c.args.t l.v-index l.self.id l.self.code before (λ k. let z : ⊥ = omega (arith, w.if-t-up_of.false, c.up_of.ensures) in z))
    ]

-- `lags::start::shorten` meets its contract. The loop's invariant is the `State` of Starts.
use Rattle.std.proofs.Common.{arith}
use Rattle.lags.proofs.Starts.{state_keep, state_shorten}
use Rattle.lags.proofs.start.shorten.Goals as goal
use Rattle.lags.proofs.start.shorten.Goals.{then-d-far, else-d-far}

pub loop-e-preserved : goal.loop-e-preserved
loop-e-preserved c =
    let net = c.args.net.now in
    let l = c.loop-e in
    elim c.if-d-far.branch [
      | then-d-far w ↦
          rw (w.far-is, w.changed-is, c.from.ensures) (state_shorten net c.requires.0 c.args.far.now l.far l.changed l.e c.loop-e-test.true l.invariant (omega arith))
      | else-d-far w ↦
          rw (w.far-is, w.changed-is) (state_keep net c.requires.0 c.args.far.now l.far l.changed l.e c.loop-e-test.true l.invariant (omega arith))
    ]

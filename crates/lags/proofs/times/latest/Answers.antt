-- `lags::times::latest` meets its contract. The loop's invariant: `best` is the latest of the edges so far.
use Rattle.lags.proofs.Arrivals.{latest_kept, latest_later}
use Rattle.lags.proofs.times.latest.Goals as goal
use Rattle.lags.proofs.times.latest.Goals.{then-lab-u, else-lab-u}

pub loop-e-preserved : goal.loop-e-preserved
loop-e-preserved c =
    let a = c.args in
    let l = c.loop-e in
    elim c.if-lab-u.branch [
      | then-lab-u w ↦ rw (w.best-is, w.max-best.ensures) (latest_later a.net.now a.ins.now a.lab.now a.time.now a.here l.e-index l.best l.invariant (rw c.from.ensures at w.if-lab-u.true))
      | else-lab-u w ↦
          let n = rw c.from.ensures at w.if-lab-u.false in
          rw w.best-is (latest_kept a.net.now a.ins.now a.lab.now a.time.now a.here l.e-index l.best l.invariant (λ e. absurd (n e)))
    ]

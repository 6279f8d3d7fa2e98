-- One edge more is asked.
use Rattle.std.proofs.Common.{◌≡◌, ◌+◌, ◌-◌, ◌*◌, arith, max, subst, sym}
use Rattle.graph.specs.Columns.{at}
use Rattle.lags.specs.inner.Climb.{AskedMark}
use Rattle.lags.proofs.Sweeps.{asked_higher}
use Rattle.lags.proofs.climb.asked.Goals as goal

pub loop-e-preserved : goal.loop-e-preserved
loop-e-preserved c =
    let a = c.args in
    let l = c.loop-e in
    let asks = c.requires.0 l.e-index c.loop-e-test.true in
    let highest : c.max-best.result ≡ max l.best (at a.mark.now (at a.net.now.from (at a.ins.now l.e-index)) - at a.net.now.count (at a.ins.now l.e-index) * 1048576) = omega (arith, c.from-w.ensures) in
    (omega (arith, asks, l.invariant.0, highest), subst (AskedMark a.net.now a.ins.now a.mark.now a.floor (l.e-index + 1)) (sym highest) (asked_higher _ _ _ _ _ _ l.invariant.1))

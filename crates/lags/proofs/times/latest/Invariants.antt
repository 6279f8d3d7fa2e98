-- `lags::times::latest` meets its contract. The loop's invariant: `best` is the latest of the edges so far.
use Rattle.lags.specs.inner.Rounds.{LatestTime}
use Rattle.lags.proofs.times.latest.Given as goal

abbrev pub invariant-loop-e : goal.invariant-loop-e
invariant-loop-e l = LatestTime l.net l.ins l.lab l.time l.here l.e-index l.best

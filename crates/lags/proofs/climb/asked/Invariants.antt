-- `lags::climb::asked` meets its contract. The loop's invariant: `best` is what the edges so far ask for.
use Rattle.std.proofs.Common.{◌<◌}
use Rattle.lags.specs.inner.Climb.{AskedMark}
use Rattle.lags.proofs.climb.asked.Given as goal

abbrev pub invariant-loop-e : goal.invariant-loop-e
invariant-loop-e l = (l.best < 34359738368) × AskedMark l.net l.ins l.mark l.floor l.e-index l.best

-- `lags::start::shorten` meets its contract. The loop's invariant is the `State` of Starts.
use Rattle.lags.proofs.Starts.{State}
use Rattle.lags.proofs.start.shorten.Given as goal

abbrev pub invariant-loop-e : goal.invariant-loop-e
invariant-loop-e l = State l.net l.initial.far l.far l.changed l.e

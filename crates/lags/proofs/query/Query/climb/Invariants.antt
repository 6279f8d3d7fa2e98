-- `lags::query::Query::climb` meets its contract. The loop keeps marks that are below every legal retiming that meets the period.
use Rattle.lags.specs.inner.Climb.{Marked}
use Rattle.lags.proofs.query.Query.climb.Given as goal

abbrev pub invariant-loop-sweep : goal.invariant-loop-sweep
invariant-loop-sweep l = Marked l.self.net.now l.self.period l.mark

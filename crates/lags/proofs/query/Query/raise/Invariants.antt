-- `lags::query::Query::raise` meets its contract. The loop's invariant is the `Lifting` of Search.
use Rattle.lags.proofs.Search.{Lifting}
use Rattle.lags.proofs.query.Query.raise.Given as goal

abbrev pub invariant-loop-v : goal.invariant-loop-v
invariant-loop-v l = Lifting l.self.net.now.nodes l.self.period l.time l.initial.lab l.lab l.v

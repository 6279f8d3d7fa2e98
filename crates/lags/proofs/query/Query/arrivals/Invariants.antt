-- `lags::query::Query::arrivals` meets its contract. The loop's invariant is the `Timing` of Arrivals.
use Rattle.std.proofs.Common.{take}
use Rattle.lags.proofs.Arrivals.{Timing}
use Rattle.lags.proofs.query.Query.arrivals.Given as goal

abbrev pub invariant-loop-v : goal.invariant-loop-v
invariant-loop-v l = Timing l.self.net.now l.self.period l.lab (take l.self.net.now.nodes l.order) l.time l.v-index

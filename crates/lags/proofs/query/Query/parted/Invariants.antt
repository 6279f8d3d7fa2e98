-- `lags::query::Query::parted` meets its contract. The loop's invariant: the nodes of the order so far stand in the two lists.
use Rattle.lags.specs.inner.Rounds.{Parts}
use Rattle.lags.proofs.query.Query.parted.Given as goal

abbrev pub invariant-loop-v : goal.invariant-loop-v
invariant-loop-v l = Parts l.order l.time l.self.period l.v-index l.late l.rest

-- `lags::query::Query::sweep` meets its contract. The loop's invariant is the `Sweeping` of Sweeps.
use Rattle.std.proofs.Common.{take}
use Rattle.lags.proofs.Sweeps.{Sweeping}
use Rattle.lags.proofs.query.Query.sweep.Given as goal

abbrev pub invariant-loop-v : goal.invariant-loop-v
invariant-loop-v l = Sweeping l.self.net.now l.self.period (take l.self.net.now.nodes l.self.ground.now.order) l.mark l.changed l.v-index

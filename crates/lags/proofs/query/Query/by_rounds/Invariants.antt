-- `lags::query::Query::by_rounds` meets its contract. The loop's invariant: the labels are what so many rounds make of the first ones, none begun with a late pin,
-- and the order is one under them. The four ways to end are laws of Search.
use Rattle.lags.proofs.Search.{Searching}
use Rattle.lags.proofs.query.Query.by_rounds.Given as goal

abbrev pub invariant-loop-round : goal.invariant-loop-round
invariant-loop-round l = Searching l.self.net.now l.self.period l.initial.lab l.lab l.order l._round

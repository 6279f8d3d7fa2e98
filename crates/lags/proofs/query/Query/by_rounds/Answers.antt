-- `lags::query::Query::by_rounds` meets its contract. The four ways to end are laws of Search.
use Rattle.std.proofs.Common.{refl}
use Rattle.lags.proofs.Search.{search_start, search_low, search_next, search_found, search_pin, search_rounds}
use Rattle.lags.proofs.query.Query.by_rounds.Goals as goal

pub loop-round-init : goal.loop-round-init
loop-round-init c = search_start 0 refl c.requires.sure c.first_labels-lab.ensures c.order_under-order.ensures

pub arrivals-time-requires-clause-low : goal.arrivals-time-requires-clause-low
arrivals-time-requires-clause-low c = let i = c.loop-round.invariant in (search_low i, i.ordered)

pub returns-then-late_pin : goal.returns-then-late_pin
returns-then-late_pin c = search_pin c.loop-round.invariant _ c.arrivals-time.ensures c.if-late_pin.ensures

pub returns-then-not-any_late : goal.returns-then-not-any_late
returns-then-not-any_late c = search_found c.loop-round.invariant _ c.arrivals-time.ensures c.if-not-any_late.ensures

pub loop-round-preserved : goal.loop-round-preserved
loop-round-preserved c =
    search_next c.loop-round.invariant _ c.arrivals-time.ensures _ _ c.loop-round-test.true c.if-late_pin.ensures c.raise.ensures c.parted-order.ensures

pub arrivals-last-requires-clause-low : goal.arrivals-last-requires-clause-low
arrivals-last-requires-clause-low c = let i = c.loop-round.invariant in (search_low i, i.ordered)

pub returns-then-any_late : goal.returns-then-any_late
returns-then-any_late c = search_rounds c.loop-round.invariant _ c.arrivals-last.ensures c.loop-round-test.false c.if-any_late.ensures

pub returns-else-any_late : goal.returns-else-any_late
returns-else-any_late c = search_found c.loop-round.invariant _ c.arrivals-last.ensures c.if-any_late.ensures

pub raise-requires : goal.raise-requires
raise-requires c = let i = c.loop-round.invariant in search_low i

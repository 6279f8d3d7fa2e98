-- `lags::start::distances` meets its contract. The loop keeps distances that are reached. Its measure is their sum: a sweep that shortens makes it fall.
use Rattle.lags.specs.inner.Starts.{distance_sum, Far}
use Rattle.lags.proofs.start.distances.Given as goal

abbrev pub invariant-loop : goal.invariant-loop
invariant-loop l = Far l.net l.far

abbrev pub decreases-loop : goal.decreases-loop
decreases-loop l = distance_sum l.net l.far

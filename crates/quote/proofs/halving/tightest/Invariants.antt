-- `quote::halving::tightest` meets its contract: 65,535 is not met, or it is halved down from there.
use Rattle.std.proofs.Common.{◌-◌, ◌<◌}
use Rattle.quote.proofs.Halves.{Halving}
use Rattle.quote.proofs.halving.tightest.Given as goal

abbrev pub invariant-loop-low : goal.invariant-loop-low
invariant-loop-low l = (l.step < 1000) × Halving l.net l.low l.high l.lab

abbrev pub decreases-loop-low : goal.decreases-loop-low
decreases-loop-low l = l.high - l.low

-- `starts::ring::follow` meets its contract: before clock s the ring holds what is needed of the clocks before it.
use Rattle.std.proofs.Common.{◌-◌}
use Rattle.starts.proofs.Followed.{Following}
use Rattle.starts.proofs.ring.follow.Given as goal

abbrev pub invariant-loop-s : goal.invariant-loop-s
invariant-loop-s l = Following l.wiring l.from.lab.now l.truth l.s l.list l.slots l.ring

abbrev pub decreases-loop-s : goal.decreases-loop-s
decreases-loop-s l = l.clocks - l.s

-- `starts::ahead::clocks` meets its contract: the first j clocks of the gate are taken.
use Rattle.starts.proofs.Turned.{Along}
use Rattle.starts.proofs.ahead.clocks.Given as goal

abbrev pub invariant-loop-j : goal.invariant-loop-j
invariant-loop-j g l = Along l.gate.truth l.gate.sees.now l.place l.initial.ring l.j l.own l.ring

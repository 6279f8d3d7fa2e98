-- `search::choices::advance` meets its contract: from place x on the bits are 0, and below they are as they were.
use Rattle.search.proofs.Next.{Advancing}
use Rattle.search.proofs.choices.advance.Given as goal

abbrev pub invariant-loop-x : goal.invariant-loop-x
invariant-loop-x l = Advancing l.k l.m l.initial.sig l.sig l.x

-- `search::choices::list_of` meets its contract: the fillings before this one are the digits of a number.
use Rattle.search.proofs.Lists.{Filled}
use Rattle.search.proofs.choices.list_of.Given as goal

abbrev pub invariant-loop-place : goal.invariant-loop-place
invariant-loop-place l = Filled l.fill l.sig l.place-index l.fillings

-- `retime::put_lags` meets its contract: the first v lags are put, the others are as they were.
use Rattle.std.proofs.Common.{◌≡◌, [], ◌∷◌, ◌++◌, drop}
use Rattle.netlist.specs.Write.{joined}
use Rattle.moves.specs.inner.Labels.{lags_of}
use Rattle.retime.proofs.put_lags.Given as goal

abbrev pub invariant-loop-v : goal.invariant-loop-v
invariant-loop-v l = l.lags ≡ joined (λ u. lags_of l.lab u ∷ []) l.v ++ drop l.v l.initial.lags

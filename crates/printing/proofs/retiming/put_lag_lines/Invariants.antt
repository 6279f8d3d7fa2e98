-- `printing::retiming::put_lag_lines` meets its contract. The loop's invariant: the lines of the nodes below v stand at the cursor.
use Rattle.std.proofs.Common.{◌≡◌}
use Rattle.std.proofs.lemmas.List.Edits.{sets}
use Rattle.netlist.specs.Write.{joined}
use Rattle.printing.specs.Listed.{lag_line}
use Rattle.printing.proofs.retiming.put_lag_lines.Given as goal

abbrev pub invariant-loop-v : goal.invariant-loop-v
invariant-loop-v l = l.out ≡ sets l.initial.out l.at (joined (lag_line l.lags) l.v)

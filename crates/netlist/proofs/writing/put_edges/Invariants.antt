-- `netlist::writing::put_edges` meets its contract. The loop's invariant: the lines of the rows below e stand at `at0`, and the cursor is behind them.
use Rattle.std.proofs.Common.{◌≡◌, ◌+◌, length}
use Rattle.std.proofs.lemmas.List.Edits.{sets}
use Rattle.netlist.specs.Write.{edge_line, joined}
use Rattle.netlist.proofs.writing.put_edges.Given as goal

abbrev pub invariant-loop-e : goal.invariant-loop-e
invariant-loop-e l = (l.at ≡ l.at0 + length (joined (edge_line l.net) l.e)) × (l.out ≡ sets l.initial.out l.at0 (joined (edge_line l.net) l.e))

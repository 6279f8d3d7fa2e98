-- `netlist::writing::put_nodes` meets its contract. The loop's invariant: the lines of the rows below i stand at `at0`, and the cursor is behind them.
use Rattle.std.proofs.Common.{◌≡◌, ◌+◌, length}
use Rattle.std.proofs.lemmas.List.Edits.{sets}
use Rattle.netlist.specs.Write.{node_line, joined}
use Rattle.netlist.proofs.writing.put_nodes.Given as goal

abbrev pub invariant-loop-i : goal.invariant-loop-i
invariant-loop-i l = (l.at ≡ l.at0 + length (joined (node_line l.net) l.i)) × (l.out ≡ sets l.initial.out l.at0 (joined (node_line l.net) l.i))

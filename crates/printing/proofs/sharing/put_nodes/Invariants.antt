-- `printing::sharing::put_nodes` meets its contract. The loop's invariant: the lines of the nodes below v stand behind that of the total.
use Rattle.std.proofs.Common.{◌≡◌}
use Rattle.std.proofs.lemmas.List.Edits.{sets}
use Rattle.netlist.specs.Write.{joined}
use Rattle.printing.specs.Shared.{rail_line}
use Rattle.printing.proofs.sharing.put_nodes.Given as goal

abbrev pub invariant-loop-v : goal.invariant-loop-v
invariant-loop-v l = l.out ≡ sets l.initial.out 11 (joined (rail_line l.table) l.v)

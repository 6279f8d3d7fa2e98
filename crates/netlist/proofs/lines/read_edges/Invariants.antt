-- `netlist::lines::read_edges` meets its contract. The loop's invariant: the lines from the cursor on, with the record filled so far, come to what all the
-- edge lines come to; the head is kept.
use Rattle.std.proofs.Common.{◌≡◌, ◌-◌, drop}
use Rattle.netlist.specs.Read.{line_of_edge, edges_from}
use Rattle.netlist.proofs.lines.read_edges.Given as goal

abbrev pub invariant-loop-e : goal.invariant-loop-e
invariant-loop-e l =
    (l.net.nodes ≡ l.initial.net.nodes) × (l.net.edges ≡ l.initial.net.edges)
    × (edges_from (l.initial.net.edges - l.e) l.e (line_of_edge l.initial.net l.e) (drop l.at l.text) l.net
    ≡ edges_from l.initial.net.edges 0 (line_of_edge l.initial.net 0) (drop l.fn.noded.at l.text) l.initial.net)

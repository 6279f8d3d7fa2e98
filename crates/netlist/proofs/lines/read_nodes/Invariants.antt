-- `netlist::lines::read_nodes` meets its contract. The loop's invariant: the lines from the cursor on, with the record filled so far, come to what all the
-- node lines come to; the head is kept.
use Rattle.std.proofs.Common.{◌≡◌, ◌-◌, drop}
use Rattle.netlist.specs.Read.{line_of_node, nodes_from}
use Rattle.netlist.proofs.lines.read_nodes.Given as goal

abbrev pub invariant-loop-v : goal.invariant-loop-v
invariant-loop-v l =
    (l.net.nodes ≡ l.initial.net.nodes) × (l.net.edges ≡ l.initial.net.edges)
    × (nodes_from (l.initial.net.nodes - l.v) l.v (line_of_node l.initial.net l.v) (drop l.at l.text) l.net
    ≡ nodes_from l.initial.net.nodes 0 (line_of_node l.initial.net 0) (drop l.fn.headed.at l.text) l.initial.net)

-- `netlist::writing::put_text` meets its contract: nothing, or the head, the node lines and the edge lines, each behind the one before.
use Rattle.std.proofs.Common.{◌≡◌, ◌≤◌, [], arith, ap, ap₂, sym, ◌∙◌, length}
use Rattle.std.proofs.lemmas.List.Edits.{sets}
use Rattle.frame.specs.Frame.{line_of, placed}
use Rattle.netlist.specs.Write.{node_line, edge_line, joined, text_of, text_in}
use Rattle.netlist.proofs.Fields.{line_size}
use Rattle.netlist.proofs.Written.{head_length, parts_length, text_parts, text_in_room, text_nodes, text_edges, text_room}
use Rattle.netlist.proofs.writing.put_text.Goals as goal
use Rattle.netlist.proofs.writing.put_text.Goals.{Joined-then-net-gt-MOST_NODES}
use Rattle.netlist.proofs.writing.put_text.Goals.{then-net-gt-MOST_NODES-via-then-net-gt-MOST_NODES, then-net-gt-MOST_NODES-via-else-net-gt-MOST_NODES+then-net-gt-MOST_EDGES, then-net-gt-MOST_NODES-via-else-net-gt-MOST_NODES+else-net-gt-MOST_EDGES+then-out-text_len}

-- Where one of the tests fails, there is no text.
none : (c : Joined-then-net-gt-MOST_NODES) → text_in c.args.net (length c.args.out.now) ≡ []
none c = elim c.then-net-gt-MOST_NODES.branch [
  | then-net-gt-MOST_NODES-via-then-net-gt-MOST_NODES w ↦ text_nodes c.args.net (length c.args.out.now) w.if-net-gt-MOST_NODES.true
  | then-net-gt-MOST_NODES-via-else-net-gt-MOST_NODES+then-net-gt-MOST_EDGES w ↦ text_edges c.args.net (length c.args.out.now) w.if-net-gt-MOST_NODES.false w.if-net-gt-MOST_EDGES.true
  | then-net-gt-MOST_NODES-via-else-net-gt-MOST_NODES+else-net-gt-MOST_EDGES+then-out-text_len w ↦ text_room c.args.net (length c.args.out.now) w.if-net-gt-MOST_NODES.false w.if-net-gt-MOST_EDGES.false (omega (arith, w.text_len.ensures))
]

pub returns-then-net-gt-MOST_NODES-clause-out_after : goal.returns-then-net-gt-MOST_NODES-clause-out_after
returns-then-net-gt-MOST_NODES-clause-out_after c = sym (ap (sets c.args.out.now 0) (none c))

pub returns-then-net-gt-MOST_NODES-clause-value : goal.returns-then-net-gt-MOST_NODES-clause-value
returns-then-net-gt-MOST_NODES-clause-value c = sym (ap length (none c))

-- Past the three tests there is room, and the text is put.
pub put_nodes-at-requires : goal.put_nodes-at-requires
put_nodes-at-requires c =
    (c.if-net-gt-MOST_NODES.false, omega (arith, parts_length c.args.net, head_length c.args.net, c.text_len.ensures, c.put_line.auto))

pub put_edges-requires : goal.put_edges-requires
put_edges-requires c =
    let net = c.args.net in
    (c.if-net-gt-MOST_EDGES.false, omega (arith, parts_length net, head_length net, c.text_len.ensures, c.put_line.auto, c.put_nodes-at.auto, c.put_nodes-at.ensures.1))

pub returns-clause-out_after : goal.returns-clause-out_after
returns-clause-out_after c =
    let a = c.args in
    let n = joined (node_line a.net) a.net.nodes in
    let m = joined (edge_line a.net) a.net.edges in
    let room : length (text_of a.net) ≤ length a.out.now = omega (arith, c.text_len.ensures) in
    let one = c.put_line.ensures ∙ ap (λ bs. placed a.out.now 0 (line_of bs)) c.head_bytes.ensures in
    let two = c.put_nodes-at.ensures.0 ∙ ap (λ l. sets l (line_size 7) n) one in
    c.put_edges.ensures.0 ∙ ap₂ (λ l at. sets l at m) two c.put_nodes-at.ensures.1 ∙ text_parts a.net a.out.now room
    ∙ sym (ap (sets a.out.now 0) (text_in_room a.net (length a.out.now) c.if-net-gt-MOST_NODES.false c.if-net-gt-MOST_EDGES.false room))

pub returns-clause-value : goal.returns-clause-value
returns-clause-value c =
    let net = c.args.net in
    let room : length (text_of net) ≤ length c.args.out.now = omega (arith, c.text_len.ensures) in
    omega (
      arith,
      c.put_edges.ensures.1,
      c.put_nodes-at.ensures.1,
      parts_length net,
      head_length net,
      ap length (text_in_room net (length c.args.out.now) c.if-net-gt-MOST_NODES.false c.if-net-gt-MOST_EDGES.false room),
    )

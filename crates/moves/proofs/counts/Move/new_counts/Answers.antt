-- `moves::counts::Move::new_counts` meets its contract: each new count is made of its edge's count and labels.
use Rattle.std.proofs.Common.{rules}
use Rattle.moves.proofs.Labels.{from_node, to_node, to_small, low_edge, low_edges, new_fits, new_is}
use Rattle.moves.proofs.counts.Move.new_counts.Goals as goal

pub column-requires : goal.column-requires
column-requires c =
    let m = c.args.self in
    let k = m.labelled in
    search (
      rules,
      low_edge m.net.now m.lab.now k,
      from_node m.net.now m.lab.now k,
      to_node m.net.now m.lab.now k,
      to_small m.net.now m.lab.now k,
      new_fits m.net.now m.lab.now k,
      low_edges m.net.now m.lab.now k,
      k.rows,
    )

pub returns : goal.returns
returns c e h =
    let m = c.args.self in
    let k = c.column.ensures.made_of e h in
    new_is m.net.now m.lab.now m.labelled e h _ (search rules)

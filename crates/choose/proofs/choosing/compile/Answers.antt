-- `choose::choosing::compile` meets its contract: the cells put together are a right program, and what is due of it is what has to be carried.
use Rattle.std.proofs.Common.{◌≡◌, List, ℕ, length, take, arith, rules, sym}
use Rattle.std.proofs.lemmas.List.{length-take-le}
use Rattle.graph.specs.inner.Sort.{Ordered}
use Rattle.netlist.specs.declared.Netlist.{Netlist}
use Rattle.moves.specs.inner.Labels.{Labelled}
use Rattle.moves.proofs.Labels.{low_nodes}
use Rattle.choose.specs.inner.Numbers.{lag_at, CellsNumbered}
use Rattle.choose.specs.inner.Wires.{Placed}
use Rattle.choose.proofs.Orders.{ordered_cut}
use Rattle.choose.proofs.Right.{arranged, okay_all, standing}
use Rattle.choose.proofs.choosing.compile.Goals as goal

-- The nodes of the order, cut out of its column.
module _ {net : Netlist} {lab : List ℕ} (order : List ℕ) (s : Labelled net lab) (rows : length order ≡ 512) where
  whole : length (take net.nodes order) ≡ net.nodes
  whole = length-take-le net.nodes order (omega (arith, low_nodes _ _ s))

  placed : {counts id code : List ℕ} {clocks : ℕ} → Ordered net.nodes net.edges net.from net.to counts order → CellsNumbered (lag_at lab) (take net.nodes order) clocks 0 id code → Placed net lab counts clocks id code
  placed o n = record { order = take net.nodes order; whole = whole; ordered = ordered_cut _ _ _ _ _ _ o; numbered = n }

pub slice_bounds-order-end : goal.slice_bounds-order-end
slice_bounds-order-end c = let rows : length c.order_of-order.result ≡ 512 = search rules in omega (arith, low_nodes _ _ c.args.task.now.of.labelled)

pub slice_bounds-new-end : goal.slice_bounds-new-end
slice_bounds-new-end c = sym (whole c.order_of-order.result c.args.task.now.of.labelled (search rules))

pub new-cells-requires : goal.new-cells-requires
new-cells-requires c =
    let task = c.args.task.now in
    let w = whole c.order_of-order.result task.of.labelled (search rules) in
    (arranged task.of.labelled task.known w (ordered_cut _ _ _ _ _ _ c.order_of-order.ensures), w)

pub wire-requires : goal.wire-requires
wire-requires c =
    let of = c.new-cells.ensures.of in
    rw (c.number_cells.ensures.of.0, of.0) (placed c.order_of-order.result c.args.task.now.of.labelled (search rules) c.order_of-order.ensures (rw (of.0, of.1) at c.number_cells.ensures.numbered))

pub put-requires-clause-celled : goal.put-requires-clause-celled
put-requires-clause-celled c =
    let task = c.args.task.now in
    let of = c.new-cells.ensures.of in
    rw (c.number_cells.ensures.of.0, of.0) (okay_all task.of.labelled task.known (placed c.order_of-order.result task.of.labelled (search rules) c.order_of-order.ensures (rw (of.0, of.1) at c.number_cells.ensures.numbered)))

pub returns : goal.returns
returns c =
    let task = c.args.task.now in
    let of = c.new-cells.ensures.of in
    let w = rw (c.number_cells.ensures.of.0, of.0) at c.wire.ensures in
    let d = rw (c.number_cells.ensures.of.0, of.0) at c.put.ensures in
    let to = c.wire.new.to in
    let p = placed c.order_of-order.result task.of.labelled (search rules) c.order_of-order.ensures (rw (of.0, of.1) at c.number_cells.ensures.numbered) in
    rw c.len.ensures (standing task.of.labelled task.known p w.entering w.operands d.owes d.dues to.first_rows to.operand_rows task.steppable to.kind to.kind_rows w.kinds)

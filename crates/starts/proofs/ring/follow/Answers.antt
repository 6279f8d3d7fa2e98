-- The edges are sorted, the nodes are in order, and `following_next` is a turn.
use Rattle.std.proofs.Common.{◌≡◌, length, rules}
use Rattle.theory.specs.Walk.{Loop}
use Rattle.graph.specs.Columns.{at, column_graph}
use Rattle.graph.specs.inner.Sort.{Ordered}
use Rattle.graph.proofs.Laws.{loop_kinds}
use Rattle.netlist.proofs.Wiring.{of_wires}
use Rattle.starts.proofs.Followed.{following_start, following_takes, following_truths, following_next}
use Rattle.starts.proofs.ring.follow.Goals as goal

pub evaluation_order-order-requires-clause-by_index : goal.evaluation_order-order-requires-clause-by_index
evaluation_order-order-requires-clause-by_index c =
    let net = c.args.from.net.now in
    λ kind l. c.requires.0.no_loop (loop_kinds net.nodes net.edges kind net.kind net.from net.to (at net.count)
    (of_wires c.wires-wires.ensures (λ n m from to. Loop (column_graph n m kind from to) (at net.count)) l))

pub loop-s-init : goal.loop-s-init
loop-s-init c =
    let m = c.args.from in
    let net = m.net.now in
    let order = c.evaluation_order-order.result in
    let order_rows : length order ≡ 512 = search rules in
    let ring_rows : length c.empty-ring.result ≡ 32770 = search rules in
    following_start _ m.lab.now _ (record { labelled = m.labelled; rows = (search rules, search rules, search rules); truths = c.truths_of-truth.ensures }) order _ _ _ order_rows ring_rows
    c.empty-ring.ensures (of_wires c.wires-wires.ensures (λ n m from to. Ordered n m from to net.count order) c.evaluation_order-order.ensures) c.asked-list.ensures

pub turn-requires-clause-before : goal.turn-requires-clause-before
turn-requires-clause-before c = rw c.as_slice-nodes.ensures c.loop-s.invariant.turned

pub take-requires-clause-one : goal.take-requires-clause-one
take-requires-clause-one c =
    let l = c.loop-s in
    let f = rw (← c.as_slice-nodes.ensures) at l.invariant in
    let rows : length c.turn.new.slots ≡ 1024 = search rules in
    (following_takes _ _ _ _ _ _ _ f _ rows c.turn.ensures _ c.stride-k.ensures).0

pub take-requires-clause-many : goal.take-requires-clause-many
take-requires-clause-many c =
    let l = c.loop-s in
    let f = rw (← c.as_slice-nodes.ensures) at l.invariant in
    let rows : length c.turn.new.slots ≡ 1024 = search rules in
    (following_takes _ _ _ _ _ _ _ f _ rows c.turn.ensures _ c.stride-k.ensures).1

pub loop-s-preserved : goal.loop-s-preserved
loop-s-preserved c =
    let l = c.loop-s in
    let f = rw (← c.as_slice-nodes.ensures) at l.invariant in
    let rows : length c.turn.new.slots ≡ 1024 = search rules in
    let kept = rw (← c.as_slice-nodes.ensures) at c.refresh.ensures in
    following_next _ _ _ _ _ _ _ f _ rows c.turn.ensures _ c.stride-k.ensures _ (c.take.ensures c.args.from.net.now.kind (following_truths _ _ _ _ _ _ _ f)) _ kept

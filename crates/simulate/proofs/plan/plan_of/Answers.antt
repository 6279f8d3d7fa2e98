-- `simulate::plan::plan_of` meets its contract: the nodes in order, the edges by the node that they enter, signals and truth words make a plan (`planned`).
use Rattle.std.proofs.Common.{◌≡◌, ℕ, List, ◌<◌, length, replicate, take, arith, rules, length-take}
use Rattle.std.proofs.lemmas.List.{get_or-take}
use Rattle.theory.specs.Walk.{Loop}
use Rattle.graph.specs.Columns.{at, column_graph}
use Rattle.graph.specs.declared.wires.Wires.{Wires}
use Rattle.graph.specs.inner.Sort.{Sorts, Ordered}
use Rattle.graph.proofs.Laws.{loop_kinds}
use Rattle.netlist.proofs.Lowest.{kind_low}
use Rattle.netlist.proofs.Wiring.{of_wires}
use Rattle.netlist.specs.inner.Wiring.{WiresOf}
use Rattle.simulate.specs.declared.circuit.Circuit.{Circuit}
use Rattle.simulate.proofs.Plans.{planned}
use Rattle.simulate.proofs.Seen.{Entering, entering}
use Rattle.simulate.proofs.plan.plan_of.Goals as goal

-- The edges as they are sorted by the wires.
sorted : (a : Circuit) {w : Wires} → WiresOf a.net.now w → {list begin : List ℕ} → Sorts w.to.now w.edges w.nodes (replicate 1024 0) list begin → Entering a.net.now list begin
sorted a k {list} {begin} s =
    entering a.net.now a.steppable.fit a.steppable.fans a.few_edges (of_wires k (λ n m from to. Sorts to m n (replicate 1024 0) list begin) s)

pub evaluation_order-order-requires-clause-by_index : goal.evaluation_order-order-requires-clause-by_index
evaluation_order-order-requires-clause-by_index c =
    let net = c.args.circuit.net.now in
    λ kind l. c.args.circuit.steppable.no_loop (loop_kinds net.nodes net.edges kind net.kind net.from net.to (at net.count)
    (of_wires c.wires-wires.ensures (λ n m from to. Loop (column_graph n m kind from to) (at net.count)) l))

pub signals_of-requires : goal.signals_of-requires
signals_of-requires c = (omega arith, (sorted c.args.circuit c.wires-wires.ensures c.entering-ins.ensures).edge)

-- The kinds are cut to the nodes.
cut : (a : Circuit) {w : Wires} → WiresOf a.net.now w → (length (take w.nodes a.net.now.kind) ≡ a.net.now.nodes) × ((v : ℕ) → v < a.net.now.nodes → at (take w.nodes a.net.now.kind) v ≡ at a.net.now.kind v)
cut a {w} k = (omega (arith, length-take w.nodes a.net.now.kind, k.nodes, a.few_nodes, a.kind_rows), λ v l. get_or-take w.nodes a.net.now.kind v 0 (omega (arith, k.nodes)))

pub truths-requires : goal.truths-requires
truths-requires c =
    let a = c.args.circuit in
    let k = cut a c.wires-wires.ensures in
    let en = sorted a c.wires-wires.ensures c.entering-ins.ensures in (
      search rules,
      (
        (omega (arith, k.0), omega (arith, k.0)),
        λ v l.
            let h : v < a.net.now.nodes = omega (arith, k.0) in
            rw (k.1 v h) (kind_low a.net.now a.steppable.fit v h, en.rising v h, en.few v h, en.three v h),
      ),
    )

pub returns : goal.returns
returns c =
    let a = c.args.circuit in
    let w = c.wires-wires.ensures in
    let k = cut a w in
    planned a.net.now _ a.steppable.fit _ (of_wires w (λ n m from to. Ordered n m from to a.net.now.count c.evaluation_order-order.result) c.evaluation_order-order.ensures)
    c.gates_of.ensures (sorted a w c.entering-ins.ensures) (omega arith) c.signals_of.ensures
    (λ v h. rw (k.1 v h) at (c.truths.ensures v (omega (arith, k.0))))

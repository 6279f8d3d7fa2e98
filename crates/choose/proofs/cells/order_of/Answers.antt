-- `choose::cells::order_of` meets its contract: the moved netlist has no loop without a register.
use Rattle.std.proofs.Common.{◌≡◌, ℕ, ◌<◌, List, length, arith}
use Rattle.theory.specs.Walk.{Loop}
use Rattle.graph.specs.Columns.{at, column_graph}
use Rattle.graph.specs.inner.Sort.{Ordered}
use Rattle.moves.specs.inner.Columns.{Filled, none}
use Rattle.netlist.proofs.Wiring.{of_wires, to_wires}
use Rattle.choose.proofs.Orders.{moved_no_loop, ordered_counts}
use Rattle.choose.proofs.cells.order_of.Goals as goal

-- The bytes of the counts.
same : {edges : ℕ} (counts : List ℕ) {bytes : List ℕ} → length counts ≡ edges → Filled (at counts) none (length counts) bytes → (e : ℕ) → e < edges → at bytes e ≡ at counts e
same counts q f e h = f.rows e (omega arith)

pub evaluation_order-requires-clause-by_index : goal.evaluation_order-requires-clause-by_index
evaluation_order-requires-clause-by_index c =
    let task = c.args.task.now in
    let m = task.known in
    λ kind. to_wires c.wires.ensures (λ n e from to. ¬ Loop (column_graph n e kind from to) (at c.bytes_of.result))
    (moved_no_loop task.of.net.now task.of.lab.now task.counts.now task.of.labelled m.counted task.steppable.no_loop c.bytes_of.result (same _ m.count_rows c.bytes_of.ensures) kind)

pub returns : goal.returns
returns c =
    let task = c.args.task.now in
    ordered_counts task.of.net.now.nodes task.of.net.now.edges task.of.net.now.from task.of.net.now.to c.bytes_of.result task.counts.now c.evaluation_order.result
    (same _ task.known.count_rows c.bytes_of.ensures)
    (of_wires c.wires.ensures (λ n e from to. Ordered n e from to c.bytes_of.result c.evaluation_order.result) c.evaluation_order.ensures)

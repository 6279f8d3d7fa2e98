-- `lags::ground_of` meets its contract: the evaluation order, the edges sorted by node, the working delays.
use Rattle.std.proofs.Common.{◌≡◌, length, replicate, arith, rules}
use Rattle.graph.specs.Columns.{at}
use Rattle.graph.proofs.Laws.{loop_kinds}
use Rattle.graph.specs.inner.Sort.{Sorts}
use Rattle.netlist.proofs.Run.{fit_rows}
use Rattle.netlist.proofs.Wiring.{of_wires}
use Rattle.lags.proofs.Wires.{sorted_wires, ordered_nodes}
use Rattle.lags.proofs.ground_of.Goals as goal

pub order_by-requires-clause-no_loop : goal.order_by-requires-clause-no_loop
order_by-requires-clause-no_loop c =
    let net = c.args.net in
    λ kind l. c.requires.no_loop (loop_kinds net.nodes net.edges kind net.kind net.from net.to (at net.count) l)

pub returns : goal.returns
returns c =
    let net = c.args.net in
    let n = fit_rows net c.requires.fit in
    let b = c.entering in
    let sorts = of_wires c.wires.ensures (λ n m from to. Sorts to m n (replicate 1024 0) b.result.list b.result.begin) b.ensures in
    let list_rows : length b.result.list ≡ 1024 = search rules in
    let order_rows : length c.order_by.result ≡ 512 = search rules in
    let begin_rows : length b.result.begin ≡ 513 = search rules in
    record {
      wires = sorted_wires net c.requires (omega (arith, n.1)) sorts (omega (arith, n.1)) (omega (arith, n.0));
      order_rows = omega (arith, n.0);
      nodes = ordered_nodes net net.count c.order_by.result c.order_by.ensures;
      delayed = c.working_delays.ensures;
    }

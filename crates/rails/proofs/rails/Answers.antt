-- `rails::rails` meets its contract: the text is read, then 12, then each node's count is put.
use Rattle.std.proofs.Common.{◌≡◌, ◌++◌, length, drop, replicate, arith, rules, ap}
use Rattle.graph.specs.inner.Sort.{Sorts}
use Rattle.netlist.proofs.Exits.{left_by}
use Rattle.netlist.proofs.Run.{fit_rows}
use Rattle.netlist.proofs.Wiring.{of_wires}
use Rattle.rails.proofs.Answered.{reads_fit, rails_stop, rails_short, rails_done}
use Rattle.rails.proofs.rails.Goals as goal

pub returns-in_err-net : goal.returns-in_err-net
returns-in_err-net c = rw (left_by c.from_residual.ensures) (rails_stop _ _ _ c.in_err-net.ensures)

pub returns-then-table-nodes : goal.returns-then-table-nodes
returns-then-table-nodes c = rails_short _ _ _ c.in_ok-net.ensures (omega arith)

pub invariant_of-bill : goal.invariant_of-bill
invariant_of-bill c = record {
  fit = reads_fit c.in_ok-net.ensures;
  sorted = of_wires c.wires.ensures (λ n m from to. Sorts from m n (replicate 1024 0) c.leaving-outs.result.list c.leaving-outs.result.begin) c.leaving-outs.ensures;
}

pub wires-requires : goal.wires-requires
wires-requires c = reads_fit c.in_ok-net.ensures

pub shared_ref_as_front-copy_from_slice : goal.shared_ref_as_front-copy_from_slice
shared_ref_as_front-copy_from_slice c = omega (arith, (fit_rows _ (reads_fit c.in_ok-net.ensures)).0)

pub returns : goal.returns
returns c =
    let few = (fit_rows _ (reads_fit c.in_ok-net.ensures)).0 in
    let wide : length c.bill-bill.result.rails ≡ 512 = search rules in
    rails_done _ _ _ c.in_ok-net.ensures (omega arith) c.bill-bill.ensures (omega (arith, few, wide))
    (rw (← c.from-nodes.ensures) (ap (λ l. l ++ drop c.from-nodes.result c.args.table.now) c.copy_from_slice.ensures.after))

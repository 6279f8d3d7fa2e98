-- `retime::retime_by` meets its contract.
use Rattle.std.proofs.Common.{arith}
use Rattle.netlist.specs.Write.{text_of}
use Rattle.netlist.proofs.Exits.{left_by}
use Rattle.netlist.proofs.theorems.Sound.{read_is_sound}
use Rattle.simulate.proofs.Ran.{reads_steppable}
use Rattle.lags.proofs.Laws.{read_sure}
use Rattle.retime.proofs.Stages.{by_refused, new_rows, by_done}
use Rattle.retime.proofs.retime_by.Goals as goal

pub moved_by-requires-clause-sure : goal.moved_by-requires-clause-sure
moved_by-requires-clause-sure c =
    let net = c.args.least.net.now in
    let h = c.requires.reads.0 in
    (reads_steppable h, read_sure (text_of net) net h, read_is_sound (text_of net) net h)

pub returns-in_err-new : goal.returns-in_err-new
returns-in_err-new c =
    let a = c.args in
    let m = a.least in
    rw (left_by c.from_residual.ensures) (by_refused m.net.now m.lab.now a.out.now a.lags.now c.in_err-new.ensures)

pub put_both-requires-clause-nodes_in_bounds : goal.put_both-requires-clause-nodes_in_bounds
put_both-requires-clause-nodes_in_bounds c =
    let a = c.args in
    let m = a.least in
    let rows = (new_rows m.net.now m.lab.now a.out.now a.lags.now _ c.in_ok-new.ensures).0 in
    (omega (arith, rows, m.labelled.rows), omega (arith, rows, c.requires.room.table))

pub put_both-requires-clause-by_index : goal.put_both-requires-clause-by_index
put_both-requires-clause-by_index c =
    let a = c.args in
    let m = a.least in
    let rows = (new_rows m.net.now m.lab.now a.out.now a.lags.now _ c.in_ok-new.ensures).0 in
    λ v h. m.labelled.small v (omega (arith, rows))

pub returns : goal.returns
returns c =
    let a = c.args in
    let m = a.least in
    by_done m.net.now m.lab.now a.out.now a.lags.now _ c.in_ok-new.ensures c.requires.reads.0 c.requires.room _ _ c.put_both.ensures.out_after c.put_both.ensures.lags_after

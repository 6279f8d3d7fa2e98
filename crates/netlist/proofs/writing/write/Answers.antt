-- `netlist::writing::write` meets its contract: the rules of the record, then 12, then its text.
use Rattle.std.proofs.Common.{◌≤◌, arith, length}
use Rattle.netlist.specs.Write.{text_of}
use Rattle.netlist.proofs.Exits.{left_by}
use Rattle.netlist.proofs.Written.{text_put}
use Rattle.netlist.proofs.Answered.{writes_stop, writes_short, writes_done}
use Rattle.netlist.proofs.Typed.{typed_record}
use Rattle.netlist.proofs.Checked.{reads_rows}
use Rattle.netlist.proofs.writing.write.Goals as goal

pub returns-in_err-verdict : goal.returns-in_err-verdict
returns-in_err-verdict c = rw (left_by c.from_residual.ensures) (writes_stop c.args.net _ _ _ _ _ c.in_err-verdict.ensures)

pub returns-then-out-n : goal.returns-then-out-n
returns-then-out-n c = writes_short c.args.net c.args.out.now _ _ c.in_ok-verdict.ensures (omega (arith, c.text_len-n.ensures))

pub returns : goal.returns
returns c =
    let a = c.args in
    let h = reads_rows (typed_record c.well_formed.0) c.in_ok-verdict.ensures in
    let long = c.text_len-n.ensures in
    let room : length (text_of a.net) ≤ length a.out.now = omega (arith, long) in
    let p = text_put a.net a.out.now _ _ c.put_text.ensures.out_after c.put_text.ensures.value h.0 h.1 room in
    writes_done a.net a.out.now _ _ c.in_ok-verdict.ensures room _ long _ p.0

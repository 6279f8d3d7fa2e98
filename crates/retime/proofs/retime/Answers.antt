-- `retime::retime` meets its contract: the text is read, and then retimed.
use Rattle.std.proofs.Common.{subst}
use Rattle.netlist.specs.Answer.{value}
use Rattle.netlist.specs.Read.{Reads}
use Rattle.netlist.proofs.Exits.{left_by}
use Rattle.netlist.proofs.theorems.Sound.{reads_text}
use Rattle.retime.proofs.Stages.{stop, goes_on}
use Rattle.retime.proofs.retime.Goals as goal

pub returns-in_err-net : goal.returns-in_err-net
returns-in_err-net c =
    let a = c.args in
    let k = stop a.text.now a.out.now a.lags.now _ c.in_err-net.ensures in
    rw (left_by c.from_residual.ensures) (record { retimes = k.0; demand3 = k.1 })

pub retime_net-requires : goal.retime_net-requires
retime_net-requires c =
    let h = c.in_ok-net.ensures in
    subst (λ t. Reads t (value 0) c.in_ok-net.net) (reads_text h) h

pub returns : goal.returns
returns c =
    let a = c.args in
    let k = goes_on a.text.now a.out.now a.lags.now _ c.in_ok-net.ensures _ _ _ c.retime_net.ensures in
    record { retimes = k.0; demand3 = k.1 }

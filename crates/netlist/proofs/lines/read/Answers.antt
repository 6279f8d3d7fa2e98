-- `netlist::lines::read` meets its contract: the lines, then the rules of the whole.
use Rattle.std.proofs.Common.{refl}
use Rattle.netlist.specs.Read.{faulty, judged}
use Rattle.netlist.proofs.Exits.{left_by}
use Rattle.netlist.proofs.Answered.{lined_fit}
use Rattle.netlist.proofs.lines.read.Goals as goal

pub returns-in_err-net : goal.returns-in_err-net
returns-in_err-net c = rw (left_by c.from_residual.ensures) (faulty c.in_err-net.ensures refl)

pub judge-requires : goal.judge-requires
judge-requires c = lined_fit _ _ c.in_ok-net.ensures

pub returns-in_err-judge : goal.returns-in_err-judge
returns-in_err-judge c = rw (left_by c.from_residual-in_err-judge.ensures) (judged _ c.in_ok-net.ensures c.in_err-judge.ensures refl)

pub returns : goal.returns
returns c = judged _ c.in_ok-net.ensures c.in_ok-judge.ensures refl

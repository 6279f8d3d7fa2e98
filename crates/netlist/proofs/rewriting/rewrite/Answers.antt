-- `netlist::rewriting::rewrite` meets its contract.
use Rattle.netlist.proofs.Exits.{left_by}
use Rattle.netlist.proofs.Rewritten.{rewrites_stop, rewrites_done}
use Rattle.netlist.proofs.rewriting.rewrite.Goals as goal

pub returns-in_err-net : goal.returns-in_err-net
returns-in_err-net c = rw (left_by c.from_residual.ensures) (rewrites_stop _ _ _ _ _ _ c.in_err-net.ensures)

pub returns : goal.returns
returns c = rewrites_done _ _ _ _ _ c.in_ok-net.ensures c.write.ensures

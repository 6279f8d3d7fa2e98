-- `netlist::checking::check` meets its contract: what is said of the record, and the record cut off or an empty one.
use Rattle.std.proofs.Common.{sym, subst}
use Rattle.netlist.specs.Read.{Reads}
use Rattle.netlist.proofs.Exits.{left_by}
use Rattle.netlist.proofs.Typed.{typed_record}
use Rattle.netlist.proofs.Checked.{reads_rows}
use Rattle.netlist.proofs.checking.check.Goals as goal

pub returns-in_err-verdict : goal.returns-in_err-verdict
returns-in_err-verdict c = rw (left_by c.from_residual.ensures) c.in_err-verdict.ensures

pub cleaned-requires : goal.cleaned-requires
cleaned-requires c = reads_rows (typed_record c.well_formed.0) c.in_ok-verdict.ensures

pub returns : goal.returns
returns c = subst (Reads _ _) (sym c.cleaned.ensures) c.in_ok-verdict.ensures

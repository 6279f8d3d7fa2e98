-- `retimer::retimer_check` meets its contract: a record that is not refused says 0.
use Rattle.std.proofs.Common.{refl}
use Rattle.netlist.specs.Answer.{value}
use Rattle.retimer.proofs.retimer_check.Goals as goal

pub returns-in-Ok : goal.returns-in-Ok
returns-in-Ok c = (value 0, (c.in-Ok.field-0, c.in-Ok.ensures), refl)

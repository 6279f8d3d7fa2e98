-- `retimer::retimer_read` meets its contract: the record that the text gives is put back.
use Rattle.std.proofs.Common.{refl}
use Rattle.netlist.specs.Answer.{value}
use Rattle.retimer.proofs.retimer_read.Goals as goal

pub returns-in-Ok : goal.returns-in-Ok
returns-in-Ok c = (value 0, (c.in-Ok.read, c.in-Ok.ensures, refl), refl)

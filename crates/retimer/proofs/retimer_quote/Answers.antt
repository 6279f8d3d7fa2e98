-- `retimer::retimer_quote` meets its contract: the figures of the quote are put back, and its period is the number.
use Rattle.std.proofs.Common.{refl}
use Rattle.netlist.specs.Answer.{value, refusal}
use Rattle.retimer.specs.Calls.{figures_of}
use Rattle.retimer.proofs.retimer_quote.Goals as goal

pub returns-in-Ok : goal.returns-in-Ok
returns-in-Ok c =
    let q = c.in-Ok.quote in
    (value q.period, (figures_of q, c.in-Ok.ensures, c.from.ensures), c.from-in-Ok.ensures)

-- A quote that is refused has no figures, so 0 stands for them, and those that were lent stay.
pub returns-in-Err : goal.returns-in-Err
returns-in-Err c = (refusal c.in-Err.reason, (record { registers = 0; largest = 0; number = 0 }, c.in-Err.ensures, refl), c.refusal_code.ensures)

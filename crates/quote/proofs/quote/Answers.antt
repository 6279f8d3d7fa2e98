-- `quote::quote` meets its contract: the text is read, and then quoted.
use Rattle.lags.proofs.Laws.{read_sure}
use Rattle.netlist.proofs.Exits.{left_by}
use Rattle.quote.proofs.Call.{unread, of_result}
use Rattle.quote.proofs.quote.Goals as goal

pub returns-in_err-read : goal.returns-in_err-read
returns-in_err-read c = rw (left_by c.from_residual.ensures) (unread c.in_err-read.ensures)

pub quote_net-requires : goal.quote_net-requires
quote_net-requires c = read_sure _ _ c.in_ok-read.ensures

pub returns : goal.returns
returns c = of_result _ c.in_ok-read.ensures _ c.quote_net.ensures

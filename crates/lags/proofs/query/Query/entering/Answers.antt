-- `lags::query::Query::entering` meets its contract.
use Rattle.lags.proofs.Wires.{entering}
use Rattle.lags.proofs.query.Query.entering.Goals as goal

pub returns : goal.returns
returns c = rw c.of.ensures (entering c.requires.0.ground _ c.requires.1)

-- The text of a netlist that came back reads, so it can be counted: retimed_counts.
use Rattle.moves.specs.Moved.{moved_net}
use Rattle.retime.proofs.theorems.Demand.{demand_follows}
use Rattle.rails.specs.Theorems.{RetimedCounts}
use Rattle.rails.proofs.Answered.{sound_counts}

pub retimed_counts : RetimedCounts
unfolding moved_net
retimed_counts t out lags s out' lags' net old x new reads o back room w =
    let came = (demand_follows t out lags s out' lags' o).came net reads back in
    (_, sound_counts came.reads room w)

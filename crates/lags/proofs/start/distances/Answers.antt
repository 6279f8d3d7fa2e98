-- `lags::start::distances` meets its contract. The loop keeps distances that are reached. Its measure is their sum: a sweep that shortens makes it fall.
use Rattle.lags.proofs.Starts.{far_start}
use Rattle.lags.proofs.start.distances.Goals as goal

pub loop-init : goal.loop-init
loop-init c = far_start c.args.net.now c.requires _ c.first_distances-far.ensures

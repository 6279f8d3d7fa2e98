-- `moves::counts::bytes_of` meets its contract: the counts, each as a byte, and 0 behind them.
use Rattle.std.proofs.Common.{rules}
use Rattle.moves.proofs.counts.bytes_of.Goals as goal

pub returns : goal.returns
returns c = record { rows = λ e h. let k = c.column.ensures.made_of e h in search rules; past = λ e h. let k = c.column.ensures.behind e h in search rules }

-- `frame::DigitTable::line` meets its contract: nothing stands behind N bytes in an array of N.
use Rattle.std.proofs.Common.{drop, ◌∙◌}
use Rattle.frame.proofs.Steps.{filled_exact}
use Rattle.frame.proofs.DigitTable.line.Goals as goal

pub returns : goal.returns
returns g c = c.line_within.ensures ∙ filled_exact c.args.kind g.row.N (drop c.args.at c.args.text.now)

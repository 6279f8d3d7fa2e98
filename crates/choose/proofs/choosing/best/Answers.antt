-- `choose::choosing::best` meets its contract: where nothing is chosen, nothing is to be carried; else the search finds the choice.
use Rattle.std.proofs.Common.{arith}
use Rattle.choose.proofs.Numbers.{cut_lags, lags_cut}
use Rattle.choose.proofs.Right.{lags_low, known, chosen_none}
use Rattle.choose.proofs.choosing.best.Goals as goal

pub returns-then-k-eq0 : goal.returns-then-k-eq0
returns-then-k-eq0 c = chosen_none c.requires (omega arith)

pub top_of-requires : goal.top_of-requires
top_of-requires c = cut_lags c.args.of.labelled.rows (lags_low c.requires)

pub invariant_of-searched : goal.invariant_of-searched
invariant_of-searched c = record { steppable = c.requires.moving.steppable; known = known c.requires (lags_cut c.args.of.labelled.rows c.top_of.ensures) }

-- `rails::Chip::paid` meets its contract: what the edges passed share is the nearest `shared` registers.
use Rattle.rails.proofs.Lower.{Passed}
use Rattle.rails.proofs.Chip.paid.Given as goal

abbrev pub invariant-loop-lower : goal.invariant-loop-lower
invariant-loop-lower l = Passed l.self.net.now l.e l.lower-index l.shared

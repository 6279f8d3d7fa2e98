-- `rails::Chip::bill` meets its contract: the edges below e are counted.
use Rattle.std.proofs.Common.{◌≡◌, length}
use Rattle.rails.specs.inner.Shared.{Counted}
use Rattle.rails.proofs.Chip.bill.Given as goal

abbrev pub invariant-loop-e : goal.invariant-loop-e
invariant-loop-e l = (length l.rails ≡ 512) × Counted l.net l.e l.total l.rails

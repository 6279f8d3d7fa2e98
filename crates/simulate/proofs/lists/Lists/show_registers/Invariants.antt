-- `simulate::lists::Lists::show_registers` meets its contract: the edges before this one are shown.
use Rattle.std.proofs.Common.{◌≡◌}
use Rattle.simulate.specs.inner.Signals.{with_registers}
use Rattle.simulate.proofs.lists.Lists.show_registers.Given as goal

abbrev pub invariant-loop-e : goal.invariant-loop-e
invariant-loop-e l = l.sig ≡ with_registers l.self.registers l.e-index l.words l.initial.sig

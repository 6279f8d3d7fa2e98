-- `simulate::lists::Lists::shift` meets its contract: the words of the edges before this one are moved on.
use Rattle.std.proofs.Common.{◌≡◌}
use Rattle.simulate.specs.inner.Signals.{with_shifts}
use Rattle.simulate.proofs.lists.Lists.shift.Given as goal

abbrev pub invariant-loop-e : goal.invariant-loop-e
invariant-loop-e l = l.words ≡ with_shifts l.self.registers l.e-index l.circuit.net.now.from l.circuit.net.now.count l.sig l.initial.words

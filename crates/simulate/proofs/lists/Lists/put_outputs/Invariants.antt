-- `simulate::lists::Lists::put_outputs` meets its contract: the first i signals are put.
use Rattle.std.proofs.Common.{◌≡◌}
use Rattle.simulate.specs.inner.Signals.{with_outputs}
use Rattle.simulate.proofs.lists.Lists.put_outputs.Given as goal

abbrev pub invariant-loop-i : goal.invariant-loop-i
invariant-loop-i l = l.out ≡ with_outputs l.self.outputs l.i l.sig l.at0 l.initial.out

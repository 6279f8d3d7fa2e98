-- `simulate::lists::Lists::put_inputs` meets its contract: the first i bytes are put.
use Rattle.std.proofs.Common.{◌≡◌}
use Rattle.simulate.specs.inner.Signals.{with_inputs}
use Rattle.simulate.proofs.lists.Lists.put_inputs.Given as goal

abbrev pub invariant-loop-i : goal.invariant-loop-i
invariant-loop-i l = l.sig ≡ with_inputs l.self.inputs l.i l.vector l.initial.sig

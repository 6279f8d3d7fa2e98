-- One edge more is shown.
use Rattle.std.proofs.Common.{refl}
use Rattle.simulate.specs.inner.Signals.{written}
use Rattle.simulate.proofs.Written.{written_more}
use Rattle.simulate.proofs.lists.Lists.show_registers.Goals as goal

pub loop-e-init : goal.loop-e-init
unfolding written
loop-e-init c = refl

pub loop-e-preserved : goal.loop-e-preserved
loop-e-preserved c = rw c.as_slice-e-items.ensures (written_more _ _ c.loop-e.e-index _ c.loop-e.invariant)

-- One byte more is put.
use Rattle.std.proofs.Common.{refl}
use Rattle.simulate.specs.inner.Signals.{written}
use Rattle.simulate.proofs.Written.{written_more}
use Rattle.simulate.proofs.lists.Lists.put_inputs.Goals as goal

pub loop-i-init : goal.loop-i-init
unfolding written
loop-i-init c = refl

pub loop-i-preserved : goal.loop-i-preserved
loop-i-preserved c = rw c.as_slice-v-items.ensures (written_more _ _ c.loop-i.i _ c.loop-i.invariant)

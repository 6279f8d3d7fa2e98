-- `along_next` is a turn.
use Rattle.std.proofs.Common.{sym, subst, refl, arith}
use Rattle.starts.proofs.Turned.{Along, along_start, along_inputs, along_next}
use Rattle.starts.proofs.ahead.clocks.Goals as goal

pub loop-j-init : goal.loop-j-init
loop-j-init g c =
    let a = c.args in
    subst (λ own. Along a.gate.truth a.gate.sees.now a.place a.ring.now 0 own a.ring.now) (sym c.copy_from_slice.ensures.after) (along_start _ _ _ _ c.requires.ready.0 c.requires.ready.1)

pub value-requires : goal.value-requires
value-requires g c = along_inputs _ _ _ _ c.requires.ready.0 _ _ _ c.loop-j.invariant (omega arith)

pub loop-j-preserved : goal.loop-j-preserved
loop-j-preserved g c =
    along_next _ _ _ _ c.requires.ready.0 _ _ _ c.loop-j.invariant _ _ c.value.result c.advance.auto.slots c.advance.ensures refl c.value.ensures

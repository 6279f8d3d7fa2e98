-- The value that the ring shows is the next bit.
use Rattle.std.proofs.Common.{◌+◌, ◌-◌, ◌*◌, ◌^◌, ◌<◌, sym, subst, ap, ◌∙◌, arith}
use mathlib.Core.Path.{ap₂}
use Rattle.graph.specs.Columns.{at}
use Rattle.theory.proofs.numbers.Sums.{sum_more}
use Rattle.moves.proofs.Words.{put_short}
use Rattle.starts.proofs.Slots.{slot_in}
use Rattle.starts.proofs.words.Filling.filled.Goals as goal

pub bounds-ring-c : goal.bounds-ring-c
bounds-ring-c c =
    let e = c.args.self.edge in
    omega (arith, c.slot-c.ensures, slot_in e.from e.registers e.start (c.loop-t.t + 16384 - c.args.self.label) e.source)

pub loop-t-preserved : goal.loop-t-preserved
loop-t-preserved c =
    let a = c.args in
    let l = c.loop-t in
    let x = at a.ring.now c.slot-c.result in
    let put = c.put_bit-new.ensures ∙ ap (λ y. l.new + y * 2 ^ l.t) c.from.ensures in (
      subst (λ y. y < 2 ^ (l.t + 1)) (sym put) (put_short l.new l.t x l.invariant.0 (c.requires c.slot-c.result)),
      λ f q h.
          put
          ∙ ap₂ (λ y z. y + z * 2 ^ l.t) (l.invariant.1 f q (λ i u v. h i u (omega arith))) (ap (at a.ring.now) c.slot-c.ensures ∙ h l.t (omega arith) (omega arith))
          ∙ sym (sum_more (λ j. f j * 2 ^ j) l.t),
    )

-- After each operand `most` is no less than before and than what the operand depends on, and one of the two.
use Rattle.std.proofs.Common.{arith, below_more}
use Rattle.solve.proofs.spans.span_of.Goals as goal

pub loop-x-preserved : goal.loop-x-preserved
loop-x-preserved c =
    let l = c.loop-x in (
      below_more _ _ (λ j h. omega (arith, l.invariant.0 j h)) (omega arith),
      λ b w. omega (arith, l.invariant.1 b w, w l.x-index c.loop-x-test.true),
    )

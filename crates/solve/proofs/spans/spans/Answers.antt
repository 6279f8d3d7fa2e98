-- `spans_more` is a turn.
use Rattle.std.proofs.Common.{◌∙◌, arith, subst}
use lib.ListN.{length-set}
use Rattle.solve.specs.inner.Parts.{Most}
use Rattle.solve.proofs.Spanning.{spans_more}
use Rattle.solve.proofs.spans.spans.Goals as goal

pub loop-i-preserved : goal.loop-i-preserved
loop-i-preserved g c =
    let l = c.loop-i in (
      length-set l.span l.i c.span_of.result ∙ l.invariant.0,
      spans_more c.args.program.right l.span l.i c.span_of.result l.invariant.1 c.loop-i-test.true (omega arith) (subst (λ o. Most o l.span c.span_of.result) c.operands.ensures c.span_of.ensures),
    )

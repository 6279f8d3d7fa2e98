-- `places_more` is a turn.
use Rattle.std.proofs.Common.{refl, ◌∙◌, arith, length-set, Some}
use Rattle.graph.specs.Columns.{at}
use Rattle.graph.proofs.Places.{places_none, places_more}
use Rattle.graph.proofs.along.places_of.Goals as goal

pub loop-p-init : goal.loop-p-init
loop-p-init c = (refl, places_none c.args.list.now 512)

pub loop-p-preserved : goal.loop-p-preserved
loop-p-preserved c =
    let list = c.args.list.now in
    let l = c.loop-p in
    (length-set l.place (at list l.p) (Some l.p) ∙ l.invariant.0, places_more list l.p l.place (omega (arith, l.invariant.0, c.requires.1 l.p 0 c.loop-p-test.true)) l.invariant.1)

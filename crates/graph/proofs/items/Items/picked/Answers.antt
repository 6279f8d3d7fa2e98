-- The next number gives an item, which is pushed; or it gives none.
use Rattle.std.proofs.Common.{◌++◌, ◌∷◌, [], List, ℕ, length, arith, length-append, sym, ap, ◌∙◌}
use Rattle.graph.proofs.Picks.{picks_zero, picks_some, picks_none}
use Rattle.graph.proofs.items.Items.picked.Goals.{in-Some, in-None}
use Rattle.graph.proofs.items.Items.picked.Goals as goal

pub loop-i-init : goal.loop-i-init
loop-i-init g c = (omega (arith, ap length c.new-list.ensures), λ item f. c.new-list.ensures ∙ picks_zero item)

pub loop-i-preserved : goal.loop-i-preserved
loop-i-preserved g c =
    let l = c.loop-i in
    elim c.match-pick.branch [
      | in-Some w ↦ (
        rw (w.list-is, w.push.ensures) (omega (arith, l.invariant.0, length-append l.list (w.in-Some.item ∷ []))),
        λ item f. w.list-is ∙ w.push.ensures ∙ ap (λ (xs : List ℕ). xs ++ w.in-Some.item ∷ []) (l.invariant.1 item f) ∙ picks_some item l.i w.in-Some.item (sym (f l.i _ (omega arith) c.pick.ensures) ∙ w.in-Some.is),
      )
      | in-None w ↦ (rw w.list-is (omega (arith, l.invariant.0)), λ item f. w.list-is ∙ l.invariant.1 item f ∙ picks_none item l.i (sym (f l.i _ (omega arith) c.pick.ensures) ∙ w.in-None.is))
    ]

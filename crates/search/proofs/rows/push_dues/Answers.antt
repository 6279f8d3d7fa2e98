-- `search::rows::push_dues` meets its contract: a due that is of the level is put behind those before it.
use Rattle.std.proofs.Common.{◌+◌, ◌++◌, ◌∷◌, [], length, length-append, arith, ap, sym, ◌∙◌, append-nil, append_assoc, rules}
use Rattle.graph.specs.Columns.{at}
use Rattle.search.proofs.Dues.{level_none, next_hit, next_miss, level_front}
use Rattle.search.proofs.rows.push_dues.Goals as goal
use Rattle.search.proofs.rows.push_dues.Goals.{then-level-x, else-level-x}

pub loop-x-init : goal.loop-x-init
loop-x-init g c = rw level_none (sym (append-nil c.args.row.now))

pub push-requires : goal.push-requires
push-requires g c =
    let a = c.args in
    let x = c.loop-x.x-index in
    let own = simp length-append at (ap length (next_hit a.level.now a.m a.due.now x (omega arith) c.if-level-x.true)) in
    let before = simp length-append at (ap length c.loop-x.invariant) in
    (search rules, omega (arith, own, before, level_front a.level.now a.m a.due.now (x + 1), c.requires.room))

pub loop-x-preserved : goal.loop-x-preserved
loop-x-preserved g c =
    let a = c.args in
    let row = a.row.now in
    let x = c.loop-x.x-index in
    elim c.if-level-x.branch [
      | then-level-x w ↦
          w.row-is ∙ w.push.ensures ∙ ap (λ l. l ++ at a.due.now x ∷ []) c.loop-x.invariant ∙ append_assoc row _ _
          ∙ ap (λ l. row ++ l) (sym (next_hit a.level.now a.m a.due.now x (omega arith) w.if-level-x.true))
      | else-level-x w ↦ w.row-is ∙ c.loop-x.invariant ∙ ap (λ l. row ++ l) (sym (next_miss a.level.now a.m a.due.now x (omega arith) w.if-level-x.false))
    ]

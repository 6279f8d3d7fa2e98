-- The operands of the cell at hand fit, since those of different cells are no more than those of all.
use Rattle.std.proofs.Common.{ℕ, ◌≡◌, ◌+◌, ◌-◌, ◌<◌, length, ap, sym, arith, subst, ◌∙◌}
use lib.ListN.{length-take, length-drop}
use Rattle.graph.specs.Columns.{at}
use Rattle.search.specs.inner.Program.{operands_of}
use Rattle.solve.specs.inner.Numbers.{ins, renumbered, Renumberable}
use Rattle.solve.proofs.Programs.{program_wired}
use Rattle.solve.proofs.Renumbering.{renumbered_room, renumbered_more, renumberable}
use Rattle.solve.proofs.Spanning.{seen_length}
use Rattle.solve.proofs.renumber.renumber.Goals as goal

pub slice_bounds-put_operands-end : goal.slice_bounds-put_operands-end
slice_bounds-put_operands-end g c =
    let p = c.args.program in
    let pair = c.requires.paired in
    let q = c.loop-q.q in
    let low = pair.cell q c.loop-q-test.true in
    let room = renumbered_room c.loop-q.invariant q g.row.OPERANDS (omega arith) c.loop-q-test.true p.right.rising pair c.requires.room.3 in
    omega (arith, room, ap length c.operands-operands.ensures, seen_length p.first.now p.operand.now (at c.args.code.now q) (p.right.in_rows _ low))

pub put_operands-requires-clause-numbered : goal.put_operands-requires-clause-numbered
put_operands-requires-clause-numbered g c =
    let p = c.args.program in
    let pair = c.requires.paired in
    let i = at c.args.code.now c.loop-q.q in
    subst (λ o. (t : ℕ) → t < length o → Renumberable c.args.id.now (at o t)) (sym c.operands-operands.ensures)
    (renumberable (program_wired p.right) pair i (pair.cell c.loop-q.q c.loop-q-test.true))

pub loop-q-preserved : goal.loop-q-preserved
loop-q-preserved g c =
    let p = c.args.program in
    let pair = c.requires.paired in
    let q = c.loop-q.q in
    let i = at c.args.code.now q in
    let low = pair.cell q c.loop-q-test.true in
    let in_rows = p.right.in_rows i low in
    let seen = c.operands-operands.ensures in
    let own : length c.operands-operands.result.now ≡ ins p.first.now i = ap length seen ∙ seen_length p.first.now p.operand.now i in_rows in
    let room = renumbered_room c.loop-q.invariant q g.row.OPERANDS (omega arith) c.loop-q-test.true p.right.rising pair c.requires.room.3 in
    let start = at c.loop-q.to.first q in
    let end = start + length c.operands-operands.result.now in
    let many : end - start ≡ ins p.first.now i = omega arith in
    let size : length c.put_operands.new.operand ≡ ins p.first.now i = c.put_operands.auto.operand ∙ simp (length-take, length-drop) (omega arith) in
    let put : (t : ℕ) → t < ins p.first.now i → at c.put_operands.new.operand t ≡ renumbered c.args.id.now (at (operands_of p.first.now p.operand.now i) t) =
    λ t h. c.put_operands.ensures t (omega arith) ∙ ap (λ o. renumbered c.args.id.now (at o t)) seen in
    rw many (renumbered_more c.loop-q.invariant end c.put_operands.new.operand (omega arith) (omega arith) in_rows (omega arith) (omega arith) size put)

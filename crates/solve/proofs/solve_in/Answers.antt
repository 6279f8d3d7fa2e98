-- `solve::solve_in` meets its contract: its columns are long enough; what is searched is the program under the new numbers, and its best list is the same.
use Rattle.std.proofs.Common.{ℕ, suc, ◌≡◌, ◌/◌, ◌≤◌, ◌<◌, length, take, arith, rules, ap, subst, sym, ◌∙◌}
use Rattle.std.proofs.lemmas.List.{length-take-le, get_or-take}
use Rattle.graph.specs.Columns.{at}
use Rattle.search.specs.inner.Program.{total_of}
use Rattle.search.specs.inner.Problem.{columns_of}
use Rattle.solve.specs.inner.Numbers.{Ranked, ProgramRenumbered, Redue}
use Rattle.solve.proofs.Numbering.{layered}
use Rattle.solve.proofs.Programs.{program_wired, new_program, new_levelled, new_owes, new_fillable, solves_old}
use Rattle.solve.proofs.Renumbering.{redue_cut, refill_cut, renumbered_cut}
use Rattle.solve.proofs.solve_in.Goals as goal

pub new-numbers-requires : goal.new-numbers-requires
new-numbers-requires g c = (search rules, (omega (arith, c.requires.room), omega (arith, c.requires.few), layered (program_wired c.args.problem.program.right) (omega (arith, c.requires.room)) c.spans-span.ensures))

pub renumbered_dues-due-requires : goal.renumbered_dues-due-requires
renumbered_dues-due-requires g c =
    let p = c.args.problem in
    let n = total_of p.owed.begin.now in
    let size = length-take-le n p.owed.due.now p.owes.due_rows in
    let numbers = c.number_levels-levels.new.self in
    let ranked = subst (λ x. Ranked (length x.kind.now) x.bits x.first.now x.operand.now numbers.id numbers.code c.number_levels-levels.result) c.new-numbers.ensures.0 c.number_levels-levels.ensures in (
      search rules,
      rw c.dues-dues.ensures (
        omega (arith, size, c.requires.room),
        λ x h.
            let l : x < n = omega (arith, size) in
            let pair = ranked.paired.each (at p.owed.due.now x / 2) (p.owes.cell x l) in
            rw (get_or-take n p.owed.due.now x 0 l) (omega (arith, ranked.paired.id_rows, p.owes.cell x l), omega (arith, pair.0, p.program.right.few_cells)),
      ),
    )

pub program-requires : goal.program-requires
program-requires g c =
    let p = c.args.problem in
    let numbers = c.number_levels-levels.new.self in
    let ranked = subst (λ x. Ranked (length x.kind.now) x.bits x.first.now x.operand.now numbers.id numbers.code c.number_levels-levels.result) c.new-numbers.ensures.0 c.number_levels-levels.ensures in
    (search rules, new_program p.program.right ranked (rw c.as_slice.ensures at c.renumber.ensures) (λ i h. omega (arith, c.requires.room.2 i h)) (omega (arith, c.requires.room)) (omega (arith, c.requires.room)))

pub invariant_of-anew : goal.invariant_of-anew
invariant_of-anew g c =
    let p = c.args.problem in
    let numbers = c.number_levels-levels.new.self in
    let ranked = subst (λ x. Ranked (length x.kind.now) x.bits x.first.now x.operand.now numbers.id numbers.code c.number_levels-levels.result) c.new-numbers.ensures.0 c.number_levels-levels.ensures in
    let redue = redue_cut numbers.id p.owed.due.now c.renumbered_dues-due.result (total_of p.owed.begin.now) p.owes.due_rows (subst (λ l. Redue numbers.id (length l) l c.renumbered_dues-due.result) c.dues-dues.ensures c.renumbered_dues-due.ensures) in
    let few : length p.fill.now ≤ length c.renumbered_fill-fill.result = omega (arith, p.fillable.few) in
    let refill = refill_cut numbers.id p.fill.now c.renumbered_fill-fill.result few c.renumbered_fill-fill.ensures in
    let size : length c.program.result.kind.now ≡ length p.program.kind.now = ap (λ x. length x.kind) c.program.ensures.columns ∙ length-take-le (length p.program.kind.now) c.renumber.new.to.kind (omega (arith, c.requires.room)) in
    rw (size, c.program.ensures.bits) (record {
      owes = new_owes p.program.right ranked (rw c.as_slice.ensures at c.renumber.ensures) (λ i h. omega (arith, c.requires.room.2 i h)) c.renumbered_dues-due.result p.owes redue (omega (arith, c.requires.room));
      fillable = new_fillable p.program.right ranked (rw c.as_slice.ensures at c.renumber.ensures) (λ i h. omega (arith, c.requires.room.2 i h)) (take (length p.fill.now) c.renumbered_fill-fill.result) p.fillable refill (length-take-le (length p.fill.now) c.renumbered_fill-fill.result few);
    })

pub search_lists-requires : goal.search_lists-requires
search_lists-requires g c =
    let p = c.args.problem in
    let numbers = c.number_levels-levels.new.self in
    let ranked = subst (λ x. Ranked (length x.kind.now) x.bits x.first.now x.operand.now numbers.id numbers.code c.number_levels-levels.result) c.new-numbers.ensures.0 c.number_levels-levels.ensures in
    let renumbered = subst (ProgramRenumbered (length p.program.kind.now) (columns_of p.program) numbers.id numbers.code) (sym c.program.ensures.columns) (renumbered_cut (rw c.as_slice.ensures at c.renumber.ensures)) in
    let fits : (i : ℕ) → i < length p.program.kind.now → at p.program.first.now (suc i) ≤ length c.program.result.operand.now =
    λ i h. omega (arith, c.requires.room.2 i h, ap (λ x. length x.operand) c.program.ensures.columns) in
    let size : length c.program.result.kind.now ≡ length p.program.kind.now = ap (λ x. length x.kind) c.program.ensures.columns ∙ length-take-le (length p.program.kind.now) c.renumber.new.to.kind (omega (arith, c.requires.room)) in
    rw (size, c.program.ensures.bits) (new_levelled p.program.right ranked renumbered fits (omega (arith, c.number_levels-levels.type_inv, p.program.right.few_bits)))

pub returns : goal.returns
returns g c =
    let p = c.args.problem in
    let numbers = c.number_levels-levels.new.self in
    let ranked = subst (λ x. Ranked (length x.kind.now) x.bits x.first.now x.operand.now numbers.id numbers.code c.number_levels-levels.result) c.new-numbers.ensures.0 c.number_levels-levels.ensures in
    let renumbered = subst (ProgramRenumbered (length p.program.kind.now) (columns_of p.program) numbers.id numbers.code) (sym c.program.ensures.columns) (renumbered_cut (rw c.as_slice.ensures at c.renumber.ensures)) in
    let fits : (i : ℕ) → i < length p.program.kind.now → at p.program.first.now (suc i) ≤ length c.program.result.operand.now =
    λ i h. omega (arith, c.requires.room.2 i h, ap (λ x. length x.operand) c.program.ensures.columns) in
    let redue = redue_cut numbers.id p.owed.due.now c.renumbered_dues-due.result (total_of p.owed.begin.now) p.owes.due_rows (subst (λ l. Redue numbers.id (length l) l c.renumbered_dues-due.result) c.dues-dues.ensures c.renumbered_dues-due.ensures) in
    let few : length p.fill.now ≤ length c.renumbered_fill-fill.result = omega (arith, p.fillable.few) in
    let refill = refill_cut numbers.id p.fill.now c.renumbered_fill-fill.result few c.renumbered_fill-fill.ensures in
    solves_old p.program.right ranked renumbered fits c.renumbered_dues-due.result p.owes redue (take (length p.fill.now) c.renumbered_fill-fill.result)
    p.fillable refill (length-take-le (length p.fill.now) c.renumbered_fill-fill.result few) c.search_lists.result (rw c.program.ensures.bits at c.search_lists.ensures)

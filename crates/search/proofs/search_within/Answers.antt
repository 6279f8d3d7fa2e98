-- `search::search_within` meets its contract: its columns are long enough, and the rows hold what is due.
use Rattle.std.proofs.Common.{rules, ◌+◌, ◌/◌, arith, refl}
use Rattle.graph.specs.Columns.{at}
use Rattle.search.specs.inner.Program.{total_of}
use Rattle.search.specs.inner.Problem.{columns_of}
use Rattle.search.specs.inner.Rows.{Rows, SameDues}
use Rattle.search.proofs.Solved.{levels_cut, plan_of, solves_same}
use Rattle.search.proofs.search_within.Goals as goal

pub push_levels-begin-requires : goal.push_levels-begin-requires
push_levels-begin-requires g c =
    let p = c.args.problem in
    let v = c.requires.levelled in
    let n = c.new-rows.ensures in
    let own = levels_cut p.program.bits c.args.levels c.put_levels.new.level v.rows c.put_levels.ensures in (
      search rules,
      (
        n.2,
        (
          rw (n.0, n.1) (λ x h. (own (at p.owed.due.now x / 2) (omega (arith, p.owes.cell x h, v.whole))).few),
          rw n.0 (omega (arith, c.requires.room), omega (arith, p.program.right.few_bits)),
        ),
      ),
    )

pub best_list-requires-clause-planned : goal.best_list-requires-clause-planned
best_list-requires-clause-planned g c =
    let p = c.args.problem in
    let v = c.requires.levelled in
    let n = c.new-rows.ensures in
    let own = levels_cut p.program.bits c.args.levels c.put_levels.new.level v.rows c.put_levels.ensures in
    let r = c.push_levels-begin.ensures in
    let rows : Rows (p.program.bits + 1) c.put_levels.new.level c.push_levels-begin.new.self.row c.push_levels-begin.new.self.left c.push_levels-begin.result = rw n.1 at r.rows in
    let same : SameDues p.owed.due.now (total_of p.owed.begin.now) c.push_levels-begin.new.self.row (at c.push_levels-begin.result (p.program.bits + 1)) = rw n.0 at r.same_dues in
    rw c.as_slice.ensures (plan_of c.two_to.ensures p.program.right v p.owes.cell p.owes.few (omega (arith, c.put_levels.auto.level, c.requires.room)) (λ i h. own i (omega (arith, v.whole))) (omega (arith, r.whole)) (omega (arith, c.requires.room)) (omega arith) refl rows same)

pub returns : goal.returns
returns g c =
    let p = c.args.problem in
    let n = c.new-rows.ensures in
    let same : SameDues p.owed.due.now (total_of p.owed.begin.now) c.push_levels-begin.new.self.row (at c.push_levels-begin.result (p.program.bits + 1)) = rw n.0 at c.push_levels-begin.ensures.same_dues in
    solves_same p.program.bits (columns_of p.program) same p.fill.now c.best_list.result (rw c.as_slice.ensures at c.best_list.ensures)

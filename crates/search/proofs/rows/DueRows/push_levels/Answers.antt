-- `search::rows::DueRows::push_levels` meets its contract: after the last level all dues are in their rows.
use Rattle.std.proofs.Common.{rules, ◌++◌, length, take, arith, ap, refl, ◌∙◌}
use Rattle.search.specs.inner.Program.{total_of}
use Rattle.search.specs.inner.Rows.{of_level}
use Rattle.search.proofs.Putting.{ranking_start, ranking_small, ranking_room, ranking_turn, ranking_whole, ranking_rows, ranking_same}
use Rattle.search.proofs.rows.DueRows.push_levels.Goals as goal

pub loop-m-init : goal.loop-m-init
loop-m-init g c = record { problem = refl; level = refl; ranking = ranking_start c.requires.none refl }

-- The number of dues fits a place.
pub overflow_cast-rows : goal.overflow_cast-rows
overflow_cast-rows g c =
    let o = c.args.self.now.problem.owes in
    omega (arith, ranking_small c.loop-m.invariant.ranking o.due_rows c.loop-m.auto.m-end c.requires.room.1, o.few)

pub push_level-requires : goal.push_level-requires
push_level-requires g c =
    let i = c.loop-m.invariant in
    let p = c.args.self.now.problem in
    let own = ap (λ l. length (of_level l.now c.loop-m.m (take (total_of p.owed.begin.now) p.owed.due.now))) i.level in
    (search rules, rw i.problem (omega (arith, own, ranking_room i.ranking p.owes.due_rows c.loop-m.auto.m-end c.requires.room.1, c.requires.room)))

pub loop-m-preserved : goal.loop-m-preserved
loop-m-preserved g c =
    let i = c.loop-m.invariant in
    let s = c.args.self.now in
    let r = c.push_level.ensures in
    let row = c.loop-m.self.row in
    let next = r.row ∙ ap (λ p. row ++ of_level c.loop-m.self.level.now c.loop-m.m (take (total_of p.owed.begin.now) p.owed.due.now)) i.problem
    ∙ ap (λ l. row ++ of_level l.now c.loop-m.m (take (total_of s.problem.owed.begin.now) s.problem.owed.due.now)) i.level in
    record {
      problem = r.same.0 ∙ i.problem;
      level = r.same.1 ∙ i.level;
      ranking = rw c.len.ensures (ranking_turn i.ranking s.problem.owes.due_rows c.loop-m.auto.m-end c.requires.room.1 c.loop-m-test.true next);
    }

pub overflow_cast-rows-2 : goal.overflow_cast-rows-2
overflow_cast-rows-2 g c =
    let o = c.args.self.now.problem.owes in
    omega (arith, ranking_small c.loop-m.invariant.ranking o.due_rows c.loop-m.auto.m-end c.requires.room.1, o.few)

pub returns-clause-rows : goal.returns-clause-rows
returns-clause-rows g c =
    let s = c.args.self.now in
    rw c.len-2.ensures (ranking_rows c.loop-m.invariant.ranking s.problem.owes.due_rows c.loop-m.auto.m-end c.requires.room.1 (omega arith) c.loop-m.self.ends)

pub returns-clause-same_dues : goal.returns-clause-same_dues
returns-clause-same_dues g c =
    let s = c.args.self.now in
    rw c.len-2.ensures (ranking_same c.loop-m.invariant.ranking s.problem.owes.due_rows c.loop-m.auto.m-end c.requires.room.1 (omega arith) c.requires.asks)

pub returns-clause-whole : goal.returns-clause-whole
returns-clause-whole g c = let s = c.args.self.now in rw c.len-2.ensures (ranking_whole c.loop-m.invariant.ranking s.problem.owes.due_rows c.loop-m.auto.m-end c.requires.room.1 (omega arith))

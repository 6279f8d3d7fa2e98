-- `search::rows::DueRows::push_level` meets its contract: with each edge one row more is put.
use Rattle.std.proofs.Common.{rules, ◌++◌, suc, length, length-append, arith, ap, refl, sym, ◌∙◌, append-nil, append_assoc}
use Rattle.graph.specs.Columns.{at}
use Rattle.gates.specs.inner.Gates.{part}
use Rattle.search.specs.inner.Rows.{of_level}
use Rattle.search.proofs.Dues.{level_none}
use Rattle.search.proofs.Putting.{row_size, row_asks, rows_next, rows_room}
use Rattle.search.proofs.rows.DueRows.push_level.Goals as goal

pub loop-e-init : goal.loop-e-init
loop-e-init g c = record { problem = refl; level = refl; written = rw (c.args.self.now.problem.owes.none, level_none) (sym (append-nil c.args.self.now.row)) }

pub push_row-requires : goal.push_row-requires
push_row-requires g c =
    let s = c.args.self.now in
    let p = s.problem in
    let e = c.loop-e.e in
    let i = c.loop-e.invariant in
    let r = part p.owed.due.now (at p.owed.begin.now e) (at p.owed.begin.now (suc e)) in
    let before = simp length-append at (ap length i.written) in
    let own = ap (λ l. length (of_level l.now c.args.m r)) i.level in (
      search rules,
      rw c.row.ensures (
        row_asks p.owes e c.loop-e-test.true (length c.loop-e.self.level.now) (omega (arith, ap (λ l. length l.now) i.level, s.leveled)),
        (omega (arith, before, own, rows_room p.owes e c.loop-e-test.true s.level.now c.args.m, c.requires), omega (arith, row_size p.owes e c.loop-e-test.true)),
      ),
    )

pub loop-e-preserved : goal.loop-e-preserved
loop-e-preserved g c =
    let s = c.args.self.now in
    let p = s.problem in
    let e = c.loop-e.e in
    let i = c.loop-e.invariant in
    let r = c.push_row.ensures in
    record {
      problem = r.same.0 ∙ i.problem;
      level = r.same.1 ∙ i.level;
      written = r.row ∙ ap (λ l. c.loop-e.self.row ++ of_level l.now c.args.m c.row.result.now) i.level
          ∙ ap (λ x. c.loop-e.self.row ++ of_level s.level.now c.args.m x) c.row.ensures
          ∙ ap (λ x. x ++ of_level s.level.now c.args.m (part p.owed.due.now (at p.owed.begin.now e) (at p.owed.begin.now (suc e)))) i.written
          ∙ append_assoc s.row _ _ ∙ ap (λ x. s.row ++ x) (sym (rows_next p.owes e c.loop-e-test.true s.level.now c.args.m));
    }

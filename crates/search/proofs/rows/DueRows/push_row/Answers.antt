-- `search::rows::DueRows::push_row` meets its contract: the new row ends where all do.
use Rattle.std.proofs.Common.{◌≡◌, ◌+◌, ◌-◌, ◌≤◌, length, length-append, arith, ap, sym, subst, ◌∙◌}
use lib.ListN.{take, drop, length-take, length-drop}
use Rattle.search.specs.inner.Rows.{RowsEnd}
use Rattle.search.proofs.Dues.{level_few}
use Rattle.search.proofs.Putting.{ends_put}
use Rattle.search.proofs.rows.DueRows.push_row.Goals as goal

pub put_left-requires : goal.put_left-requires
put_left-requires g c =
    let a = c.args in
    let size = simp length-append at (ap length c.push_dues.ensures) in
    simp (length-take, length-drop) (omega (arith, c.len-start.ensures, c.len-end.ensures, size, level_few a.self.now.level.now a.m a.due.now))

pub invariant_of-self : goal.invariant_of-self
invariant_of-self g c =
    let s = c.args.self.now in
    let a = c.len-start.result in
    let n = c.len-end.result - c.len-start.result in
    let size = simp length-append at (ap length c.push_dues.ensures) in
    let end : a + n ≡ length c.push_dues.new.row = omega (arith, c.len-start.ensures, c.len-end.ensures, size) in
    let room : a + n ≤ length s.left = omega arith in
    let fits : length (take n (drop a s.left)) ≡ n = simp (length-take, length-drop) (omega arith) in
    record {
      few = s.few;
      leveled = s.leveled;
      ends = subst (RowsEnd _ 0) end (ends_put s.left c.put_left.new.left a n (subst (RowsEnd s.left 0) (sym c.len-start.ensures) s.ends) (c.put_left.auto.left ∙ fits) room (λ d h. c.put_left.ensures d (omega (arith, fits)) ∙ fits));
    }

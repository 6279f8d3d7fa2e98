-- `search::rows::put_levels` meets its contract: the cells of the levels below m have their levels.
use Rattle.std.proofs.Common.{◌≡◌, ◌≤◌, ◌<◌, ◌+◌, ◌-◌, ℕ, suc, List, length, take, drop, add-one, arith, ap, ◌∙◌}
use lib.ListN.{replicate, length-take, length-drop}
use Rattle.graph.specs.Columns.{at}
use Rattle.search.specs.inner.Program.{rows_of, total_of}
use Rattle.search.proofs.Putting.{climb, level_put}
use Rattle.search.proofs.rows.put_levels.Goals as goal

-- The cells of level m have places.
room : (levels : List ℕ) (m n : ℕ) → ((m : ℕ) → suc m < length levels → at levels m ≤ at levels (suc m)) → m < rows_of levels → total_of levels ≤ n → at levels (m + 1) ≤ n
room levels m n up h l = omega (arith, climb levels (rows_of levels) (λ j b. up j (omega arith)) (m + 1) (rows_of levels) (omega arith) (omega arith))

pub slice_bounds-fill-end : goal.slice_bounds-fill-end
slice_bounds-fill-end c = room c.args.levels.now c.loop-m.m (length c.loop-m.level) c.requires.rising (omega arith) (omega (arith, c.requires.room))

pub loop-m-preserved : goal.loop-m-preserved
loop-m-preserved c =
    let a = c.args in
    let m = c.loop-m.m in
    let up : at a.levels.now m ≤ at a.levels.now (m + 1) = rw (add-one m) (c.requires.rising m (omega arith)) in
    let fits = room a.levels.now m (length c.loop-m.level) c.requires.rising (omega arith) (omega (arith, c.requires.room)) in
    let n = at a.levels.now (m + 1) - at a.levels.now m in
    let size : length (take n (drop (at a.levels.now m) c.loop-m.level)) ≡ n = simp (length-take, length-drop) (omega arith) in
    level_put a.levels.now (rows_of a.levels.now) m c.loop-m.level up fits (omega arith) c.loop-m.invariant (c.fill.ensures.after (λ y e. e) ∙ ap (λ k. replicate k m) size)

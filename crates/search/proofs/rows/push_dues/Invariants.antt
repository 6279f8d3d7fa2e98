-- `search::rows::push_dues` meets its contract: those of the first dues are put.
use Rattle.std.proofs.Common.{◌≡◌, ◌++◌, take}
use Rattle.search.specs.inner.Rows.{of_level}
use Rattle.search.proofs.rows.push_dues.Given as goal

abbrev pub invariant-loop-x : goal.invariant-loop-x
invariant-loop-x g l = l.row ≡ l.initial.row ++ of_level l.level l.m (take l.x-index l.due)

-- `choose::dues::append_dues` meets its contract: the dues of the old values below s are put.
use Rattle.std.proofs.Common.{◌+◌, ◌-◌, ◌≤◌}
use Rattle.choose.specs.inner.Dues.{due_at, Pushed}
use Rattle.choose.proofs.dues.append_dues.Given as goal

abbrev pub invariant-loop-s : goal.invariant-loop-s
invariant-loop-s l =
    (l.initial.s ≤ l.s) × (l.s ≤ l.initial.s + (l.end - l.initial.s)) × Pushed (due_at l.id l.e.node l.e.lag l.e.count l.e.values) l.initial.due l.due l.initial.s l.s

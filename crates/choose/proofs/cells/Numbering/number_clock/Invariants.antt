-- `choose::cells::Numbering::number_clock` meets its contract: the cells before this place are numbered.
use Rattle.std.proofs.Common.{◌≡◌}
use Rattle.choose.specs.inner.Numbers.{lag_at, CellsNumbered}
use Rattle.choose.proofs.cells.Numbering.number_clock.Given as goal

abbrev pub invariant-loop-v : goal.invariant-loop-v
invariant-loop-v l =
    (l.self.task ≡ l.initial.self.task) × (l.self.order ≡ l.initial.self.order)
    × CellsNumbered (lag_at l.initial.self.task.now.of.lab.now) l.initial.self.order.now l.t l.v-index l.self.id l.self.code

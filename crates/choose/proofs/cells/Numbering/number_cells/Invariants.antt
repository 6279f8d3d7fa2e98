-- `choose::cells::Numbering::number_cells` meets its contract: the cells of the clocks below t are numbered.
use Rattle.std.proofs.Common.{◌≡◌}
use Rattle.choose.specs.inner.Numbers.{lag_at, CellsNumbered}
use Rattle.choose.proofs.cells.Numbering.number_cells.Given as goal

abbrev pub invariant-loop-t : goal.invariant-loop-t
invariant-loop-t l =
    (l.self.task ≡ l.initial.self.task) × (l.self.order ≡ l.initial.self.order)
    × CellsNumbered (lag_at l.initial.self.task.now.of.lab.now) l.initial.self.order.now l.t 0 l.self.id l.self.code

-- `choose::cells::Numbering::number_cells` meets its contract: the cells of one clock more are numbered.
use Rattle.std.proofs.Common.{◌∙◌}
use Rattle.choose.proofs.Numbers.{numbered_clock}
use Rattle.choose.proofs.cells.Numbering.number_cells.Goals as goal

pub loop-t-preserved : goal.loop-t-preserved
loop-t-preserved c =
    let i = c.loop-t.invariant in
    let (task, order) = c.number_clock.ensures.of in (
      task ∙ i.0,
      order ∙ i.1,
      numbered_clock _ _ c.loop-t.t _ _ c.args.self.now.arranged (rw (i.0, i.1) at c.number_clock.ensures.numbered),
    )

-- `choose::choosing::searched` meets its contract: what is found in the program is retiming's.
use Rattle.choose.proofs.Right.{chooses}
use Rattle.choose.proofs.choosing.searched.Goals as goal

pub returns : goal.returns
returns c =
    let task = c.args.task.now in
    chooses task.of.labelled task.known task.steppable c.compile-cells.ensures _ (rw (c.program.ensures.columns, c.program.ensures.bits, c.owed.ensures.0, c.owed.ensures.1) at c.solve.ensures)

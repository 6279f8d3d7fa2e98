-- `choose::cells::Numbering::source_of` meets its contract: the number of a chosen value is a small one.
use Rattle.std.proofs.Common.{arith}
use Rattle.choose.proofs.Right.{base_low}
use Rattle.choose.proofs.cells.Numbering.source_of.Goals as goal

pub overflow_add-result : goal.overflow_add-result
overflow_add-result c = let task = c.args.self.now.task.now in omega (arith, base_low task.of.labelled task.known c.args.e c.requires.edge)

pub overflow_cast-result : goal.overflow_cast-result
overflow_cast-result c = let task = c.args.self.now.task.now in omega (arith, base_low task.of.labelled task.known c.args.e c.requires.edge)

-- `frame::put_byte` meets its contract.
use Rattle.std.proofs.Common.{add-one}
use Rattle.frame.specs.Frame.{hex_of}
use Rattle.frame.proofs.put_byte.Goals as goal

pub returns : goal.returns
unfolding hex_of
returns c = rw (add-one, c.char_of.ensures, c.char_of-2.ensures)

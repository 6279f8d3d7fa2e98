-- `frame::char_of` meets its contract: the digits stand in the order of their values.
use Rattle.std.proofs.Common.{arith}
use Rattle.std.proofs.lemmas.List.FromFn.{get_or-map-range_with_len}
use Rattle.frame.specs.Frame.{char_of}
use Rattle.frame.proofs.char_of.Goals as goal

pub returns : goal.returns
unfolding char_of
returns c = get_or-map-range_with_len char_of 0 16 c.args.d c.args.d 0 (omega arith) (omega arith)

-- `starts::ring::empty` meets its contract.
use Rattle.std.proofs.Common.{refl}
use Rattle.starts.proofs.Slots.{empty_is}
use Rattle.starts.proofs.ring.empty.Goals as goal

pub returns : goal.returns
returns c = empty_is 32770 refl

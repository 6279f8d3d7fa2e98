-- `printing::sharing::total_bytes` meets its contract: each byte is the definition's.
use Rattle.std.proofs.Common.{◌∷◌, ap}
use Rattle.printing.proofs.Bytes.{last_four}
use Rattle.printing.proofs.sharing.total_bytes.Goals as goal

pub returns : goal.returns
returns c = rw (c.copy_from_slice.ensures.after, c.to_be_bytes.ensures) (ap (λ l. 10 ∷ l) (last_four c.args.total))

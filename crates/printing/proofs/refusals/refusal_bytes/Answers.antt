-- `printing::refusals::refusal_bytes` meets its contract: each byte is the definition's.
use Rattle.std.proofs.Common.{◌∙◌}
use Rattle.frame.specs.Frame.{bytes_of}
use Rattle.frame.proofs.Numbers.{code_two}
use Rattle.printing.proofs.refusals.refusal_bytes.Goals as goal

pub returns : goal.returns
unfolding bytes_of
returns c = rw (c.kind.ensures, c.copy_from_slice.ensures.after ∙ c.to_be_bytes.ensures ∙ code_two _, c.index.ensures)

-- `printing::sharing::rail_bytes` meets its contract: each byte is the definition's.
use Rattle.std.proofs.Common.{◌∙◌}
use Rattle.frame.specs.Frame.{bytes_of}
use Rattle.frame.proofs.Numbers.{code_two, code_four}
use Rattle.printing.proofs.sharing.rail_bytes.Goals as goal

pub returns : goal.returns
unfolding bytes_of
returns c = rw (c.copy_from_slice.ensures.after ∙ c.to_be_bytes.ensures ∙ code_two _, c.copy_from_slice-2.ensures.after ∙ c.to_be_bytes-2.ensures ∙ code_four _)

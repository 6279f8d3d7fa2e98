-- A gate with a truth word has eight inputs at most.
use Rattle.std.proofs.Common.{arith}
use Rattle.starts.proofs.Turned.{few_inputs}
use Rattle.starts.proofs.ahead.gate_ahead.Goals as goal

pub clocks-requires-in_default-clause-inputs : goal.clocks-requires-in_default-clause-inputs
clocks-requires-in_default-clause-inputs c = (omega (arith, few_inputs _ _ c.requires.0.narrow), omega arith)

-- `simulate::running::clocks_of` meets its contract: after t clocks their outputs are put out, and the words are those that they left.
use Rattle.std.proofs.Common.{◌*◌}
use Rattle.simulate.proofs.Ran.{Running}
use Rattle.simulate.proofs.running.clocks_of.Given as goal

abbrev pub invariant-loop-t : goal.invariant-loop-t
invariant-loop-t l = Running l.circuit.net.now l.clocks l.initial.words l.vectors l.initial.out l.t (l.t * l.inputs) (l.t * l.outputs) (record { sig = l.sig; words = l.words; out = l.out })

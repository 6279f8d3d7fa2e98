-- `gates::truth::counted` meets its contract: the bits below k are the gate's values.
use Rattle.theory.specs.Gate.{gate_by}
use Rattle.rules.specs.Kinds.{kind_number}
use Rattle.gates.proofs.Spelt.{Spelt}
use Rattle.gates.proofs.truth.counted.Given as goal

abbrev pub invariant-loop-k : goal.invariant-loop-k
invariant-loop-k l = Spelt (gate_by (kind_number l.kind) l.n) l.k l.word

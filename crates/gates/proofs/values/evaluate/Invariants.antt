-- `gates::values::evaluate` meets its contract: the gates passed are evaluated.
use Rattle.std.proofs.Common.{◌≡◌, List, ℕ, length}
use Rattle.gates.specs.inner.Gates.{AllBits, evaluated, Truths}
use Rattle.gates.proofs.values.evaluate.Given as goal

abbrev pub invariant-loop-node : goal.invariant-loop-node
invariant-loop-node l =
    AllBits l.sig
    × ((kind : List ℕ) → Truths kind l.gates.node.now l.gates.truth.now l.gates.first.now (length l.gates.node.now)
    → l.sig ≡ evaluated kind l.gates.node.now l.gates.first.now l.gates.list.now l.base l.node-index l.initial.sig)

-- `starts::ahead::evaluate_ahead` meets its contract: the gates before this one have their 32 clocks.
use Rattle.std.proofs.Common.{◌≡◌, ℕ, List, length}
use Rattle.gates.specs.inner.Gates.{AllBits, Truths}
use Rattle.starts.specs.inner.Ahead.{all_ahead}
use Rattle.starts.proofs.ahead.evaluate_ahead.Given as goal

abbrev pub invariant-loop-node : goal.invariant-loop-node
invariant-loop-node l =
    (length l.ring ≡ length l.initial.ring) × AllBits l.ring
    × ((kind : List ℕ) → Truths kind l.gates.node.now l.gates.truth.now l.gates.first.now (length l.gates.node.now)
    → l.ring ≡ all_ahead kind l.gates.node.now l.gates.first.now l.gates.list.now l.base l.node-index l.initial.ring)

-- `moves::counts::Move::chosen` meets its contract: the sums up to e are filled, and each edge adds at most the lag of the node that it enters, so at most 16,384.
use Rattle.std.proofs.Common.{◌≡◌, ℕ, ◌+◌, ◌*◌, ◌≤◌, ◌<◌, length}
use Rattle.theory.specs.Move.{sum}
use Rattle.graph.specs.Columns.{at}
use Rattle.moves.specs.inner.Labels.{chosen_at}
use Rattle.moves.proofs.counts.Move.chosen.Given as goal

abbrev pub invariant-loop-e : goal.invariant-loop-e
invariant-loop-e l =
    (length l.base ≡ 1025)
    × (l.total ≤ 16384 * l.e)
    × (l.total ≡ sum (chosen_at l.self.net.now l.self.lab.now) l.e)
    × ((k : ℕ) → k < l.e + 1 → at l.base k ≡ sum (chosen_at l.self.net.now l.self.lab.now) k)

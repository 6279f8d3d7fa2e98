-- `starts::words::Filling::filled` meets its contract: the word has the start values below t.
use Rattle.std.proofs.Common.{◌≡◌, ℕ, ◌^◌, ◌<◌, ◌≤◌}
use Rattle.graph.specs.Columns.{at}
use Rattle.moves.specs.Moved.{word_of}
use Rattle.starts.specs.inner.Starts.{shown_slot}
use Rattle.starts.proofs.words.Filling.filled.Given as goal

abbrev pub invariant-loop-t : goal.invariant-loop-t
invariant-loop-t l =
    (l.new < 2 ^ l.t)
    × ((f : ℕ → ℕ) → l.self.word ≡ word_of f l.self.chosen → ((x : ℕ) → l.self.chosen ≤ x → x < l.t → at l.ring (shown_slot l.self.edge.from l.self.edge.registers l.self.edge.start l.self.label x) ≡ f x) → l.new ≡ word_of f l.t)

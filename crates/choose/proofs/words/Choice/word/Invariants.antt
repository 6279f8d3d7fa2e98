-- `choose::words::Choice::word` meets its contract: the word holds the values below t.
use Rattle.std.proofs.Common.{◌≡◌, ◌+◌}
use Rattle.theory.specs.Move.{digit}
use Rattle.moves.specs.Moved.{word_of}
use Rattle.choose.proofs.words.Choice.word.Given as goal

abbrev pub invariant-loop-t : goal.invariant-loop-t
invariant-loop-t l = l.word ≡ word_of (λ t. digit l.self.bits l.self.number (l.start + t)) l.t

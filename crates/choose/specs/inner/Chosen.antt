-- The answer: the chosen start values as words, one for each edge.
--   Rises               the values of the edges stand one after the other, up to k: those of edge e from base(e) up to base(e + 1)
--   run_word            the values of the number c of k digits from value `start` up to `end`, as a word: the first one lowest
--   RunWords            so of each edge
--   BestWords           the words of the number that is taken
--   Chosen              they are found, or no choice carries the start
use Rattle.std.specs.Prelude.{◌≡◌, Option, Some, None, List, ℕ, ◌+◌, ◌-◌, ◌<◌, ◌≤◌, ℤ, length}
use Rattle.theory.specs.Move.{digit}
use Rattle.graph.specs.Columns.{at}
use Rattle.netlist.specs.declared.Netlist.{Netlist}
use Rattle.netlist.specs.Circuit.{BestAt, StartlessAt}
use Rattle.moves.specs.Moved.{word_of}
use Rattle.moves.specs.inner.Chosen.{EdgeWords}

abbrev pub Rises : List ℕ → ℕ → Type 0
Rises base k = (e : ℕ) → e + 1 < length base → (at base e ≤ at base (e + 1)) × (at base (e + 1) ≤ k)

abbrev pub run_word : ℕ → ℕ → ℕ → ℕ → ℕ
run_word c k start end = word_of (λ t. digit k c (start + t)) (end - start)

abbrev pub RunWords : ℕ → ℕ → List ℕ → List ℕ → Type 0
RunWords c k base words = (e : ℕ) → e + 1 < length base → at words e ≡ run_word c k (at base e) (at base (e + 1))

pub record BestWords (net : Netlist) (r : ℕ → ℤ) (words : List ℕ) : Type 0 where
  pub number : ℕ
  pub best : BestAt net r number
  pub its_words : EdgeWords net r number words

abbrev pub Chosen : Netlist → (ℕ → ℤ) → Option (List ℕ) → Type 0
Chosen net r (Some words) = BestWords net r words
Chosen net r None = StartlessAt net r

-- The chosen start values as words, one for each edge.
--   chosen_word         the values that the number c chooses on an edge, of the netlist moved by the lags r: bit t for clock t
--   EdgeWords           the words of c, edge by edge
--   ShortWords          words that have no bit past the chosen values
use Rattle.std.specs.Prelude.{◌≡◌, List, ℕ, ◌^◌, ◌<◌, ◌≤◌, ℤ, length}
use Rattle.graph.specs.Columns.{at}
use Rattle.netlist.specs.declared.Netlist.{Netlist}
use Rattle.netlist.specs.Circuit.{choice_at}
use Rattle.netlist.specs.inner.Words.{chosen_on_at}
use Rattle.moves.specs.Moved.{word_of}

abbrev pub chosen_word : Netlist → (ℕ → ℤ) → ℕ → ℕ → ℕ
chosen_word net r c e = word_of (choice_at net r c e) (chosen_on_at net r e)

abbrev pub EdgeWords : Netlist → (ℕ → ℤ) → ℕ → List ℕ → Type 0
EdgeWords net r c words = (e : ℕ) → e < net.edges → at words e ≡ chosen_word net r c e

pub record ShortWords (net : Netlist) (r : ℕ → ℤ) (words : List ℕ) : Type 0 where
  pub rows : net.edges ≤ length words
  pub fits : (e : ℕ) → e < net.edges → at words e < 2 ^ chosen_on_at net r e

-- Clocks in a row, of a netlist of which nothing is refused.
--   Steppable           a netlist that keeps the rules 2 to 6
--   Runnable            what n clocks from these words ask: one vector each, of bits; words that fit; room
--   words_from          the words that n clocks leave
--   Ran                 what n clocks do: their outputs stand at the front of the buffer, and their words are left
use Rattle.std.specs.Prelude.{◌≡◌, true, List, ℕ, zero, suc, ◌*◌, ◌≤◌, length, take, drop}
use Rattle.std.proofs.lemmas.List.Edits.{sets}
use Rattle.netlist.specs.declared.Netlist.{Netlist}
use Rattle.netlist.specs.Read.{FanInsFit}
use Rattle.netlist.specs.Circuit.{LoopIn}
use Rattle.netlist.specs.Theorems.{Fit}
use Rattle.simulate.specs.Clock.{inputs, outputs, words_after}
use Rattle.simulate.specs.Step.{only_bits, words_fit}
use Rattle.simulate.specs.Run.{clocks_from}

pub record Steppable (net : Netlist) : Type 0 where
  pub fit : Fit net
  pub fans : FanInsFit net
  pub no_loop : ¬ LoopIn net

pub record Runnable (net : Netlist) (n : ℕ) (words vectors out : List ℕ) : Type 0 where
  pub whole : length vectors ≡ n * inputs net
  pub vector_bits : only_bits vectors ≡ true
  pub fits : words_fit net words net.edges ≡ true
  pub room : n * outputs net ≤ length out

unfoldable pub words_from : Netlist → ℕ → List ℕ → List ℕ → List ℕ
words_from net zero words vectors = words
words_from net (suc n) words vectors = words_from net n (words_after net words (take (inputs net) vectors)) (drop (inputs net) vectors)

pub record Ran (net : Netlist) (n : ℕ) (words vectors out words' out' : List ℕ) : Type 0 where
  pub puts : out' ≡ sets out 0 (clocks_from net n words vectors)
  pub leaves : words' ≡ words_from net n words vectors

-- Running. "Running is stepping from the start values, one clock per vector. Each clock takes the words that the last one left, and nothing else writes them meanwhile."
--   clocks_from         what n clocks put out
--   clocks              how many clocks the vectors are for
--   run_fits            the tests of 13
--   Runs t vectors old s new
use Rattle.std.specs.Prelude.{◌≡◌, Bool, false, List, [], ◌∷◌, ◌++◌, ℕ, zero, suc, ◌*◌, ◌/◌, ◌%◌, eqb, length, take, drop}
use Rattle.netlist.specs.declared.Netlist.{Netlist}
use Rattle.netlist.specs.Answer.{Said, whole, holds}
use Rattle.netlist.specs.Order.{◌or_else◌, Given, Stops, Needs}
use Rattle.rules.specs.Rules.{every}
use Rattle.netlist.specs.Read.{Reads}
use Rattle.simulate.specs.Clock.{inputs, outputs, output_values, words_after}
use Rattle.simulate.specs.Step.{only_bits}

-- The outputs of n clocks, from these words, on these vectors.
unfoldable pub clocks_from : Netlist → ℕ → List ℕ → List ℕ → List ℕ
clocks_from net zero words vectors = []
clocks_from net (suc n) words vectors =
    output_values net words (take (inputs net) vectors)
    ++ clocks_from net n (words_after net words (take (inputs net) vectors)) (drop (inputs net) vectors)

-- How many vectors these bytes are. "Zero vectors are a run of zero clocks."
abbrev pub clocks : Netlist → List ℕ → ℕ
clocks net vectors = length vectors / inputs net

-- The opposite of "13 (whole): vector bytes not a multiple of the inputs, a byte above 1".
abbrev pub run_fits : Netlist → List ℕ → Bool
run_fits net vectors = every (eqb (length vectors % inputs net) 0 ∷ only_bits vectors ∷ [])

-- Running the text t on these vectors, into a buffer that held `old`, says s and leaves `new`.
pub record Runs (t vectors old : List ℕ) (s : Said) (new : List ℕ) : Type 0 where
  pub checked : Said
  pub net : Netlist
  pub reads : Reads t checked net
  -- "running … with 13, 12 (… running one per clock)".
  pub answer : (Stops checked or_else Given (run_fits net vectors ≡ false) (whole 13) or_else Needs (clocks net vectors * outputs net) (length old)) s
  pub buffer : new ≡ holds s (clocks_from net (clocks net vectors) net.start vectors) old

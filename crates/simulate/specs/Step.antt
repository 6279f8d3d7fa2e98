-- Stepping: one clock on a machine record.
--   only_bits, words_fit  the tests of 13
--   step_fits           all of them
--   says_stepped, machine_of  what a step's result says, and the machine that it gives
--   machine_after       the machine record that it leaves
--   Steps net m vector old s m' new
use Rattle.std.specs.Prelude.{◌≡◌, Bool, true, false, cond, List, [], ◌∷◌, ℕ, zero, suc, ◌^◌, eqb, ltb, leb, length, get_or, Result, Ok, Err}
use Rattle.netlist.specs.declared.Netlist.{Netlist}
use Rattle.netlist.specs.declared.Refusal.{Refusal}
use Rattle.netlist.specs.Answer.{Said, value, refused, refusal, whole, holds}
use Rattle.netlist.specs.Order.{◌or_else◌, Given, Stops, Needs}
use Rattle.netlist.specs.Net.{regs_of}
use Rattle.rules.specs.Rules.{every}
use Rattle.netlist.specs.Read.{Reads}
use Rattle.netlist.specs.Write.{text_of}
use Rattle.simulate.specs.declared.Machine.{Machine}
use Rattle.simulate.specs.declared.Stepped.{Stepped}
use Rattle.simulate.specs.Clock.{inputs, outputs, output_values, words_after}

-- The opposite of "a byte above 1".
unfoldable pub only_bits : List ℕ → Bool
only_bits [] = true
only_bits (b ∷ l) = cond (leb b 1) (only_bits l) false

-- The opposite of "a machine word with a bit at or above its edge's count", for the first n edges.
unfoldable pub words_fit : Netlist → List ℕ → ℕ → Bool
words_fit net words zero = true
words_fit net words (suc n) = cond (words_fit net words n) (ltb (get_or words n 0) (2 ^ (regs_of net).count n)) false

-- The opposite of "13 (whole): vector bytes not a multiple of the inputs (stepping: not one vector), a byte above 1, or a machine word with a bit at or above its edge's count."
abbrev pub step_fits : Netlist → List ℕ → List ℕ → Bool
step_fits net words vector = every (eqb (length vector) (inputs net) ∷ only_bits vector ∷ words_fit net words net.edges ∷ [])

-- What a step's result says, and the machine that it leaves: after a refusal, the one that it was given.
abbrev pub says_stepped : Result Stepped Refusal → Said
says_stepped (Ok r) = value r.outputs
says_stepped (Err r) = refusal r

abbrev pub machine_of : Machine → Result Stepped Refusal → Machine
machine_of m (Ok r) = r.machine
machine_of m (Err r) = m

abbrev pub machine_after : Said → Netlist → Machine → List ℕ → Machine
machine_after (value n) net m vector = record { words = words_after net m.words vector }
machine_after (refused q k p) net m vector = m

-- "Writing and stepping take a netlist record and check 2 to 7 as if its lines were read." The netlist of these lines is the one that is stepped: rows past them are read by nothing.
pub record Steps (net : Netlist) (m : Machine) (vector old : List ℕ) (s : Said) (m' : Machine) (new : List ℕ) : Type 0 where
  pub checked : Said
  pub same : Netlist
  pub check : Reads (text_of net) checked same
  -- "stepping with 13, 12 (stepping writes one vector of outputs …)".
  pub answer : (Stops checked or_else Given (step_fits same m.words vector ≡ false) (whole 13) or_else Needs (outputs same) (length old)) s
  pub machine : m' ≡ machine_after s same m vector
  pub buffer : new ≡ holds s (output_values same m.words vector) old

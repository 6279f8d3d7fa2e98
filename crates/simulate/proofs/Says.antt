-- Steps and runs that are not refused: 13 and 12 in facts.
--   Row, row-..         the row of stepping and of running
--   step_facts          the tests of 13 hold, in facts
--   StepGoes, step_goes, step_says    a step is not refused, in facts; the same from what it says, and back
--   RunGoes, run_goes                 so of a run
use Prim.Native.Nat.{ℕ, ◌*◌, ◌%◌, ◌≤◌}
use native.Mathlib.Omega.{arith}
use native.Mathlib.Nat.{div-add-mod'}
use mathlib.Core.Path.{◌≡◌, refl}
use mathlib.Core.Bool.{Bool, true, false, Bool-discrete}
use mathlib.Core.List.{List}
use lib.Dec.{eqb}
use lib.ListN.{length}
use borrow.Author.Tests.{eqb-true, eq-eqb}
use Rattle.netlist.specs.declared.Netlist.{Netlist}
use Rattle.netlist.specs.Answer.{Said, value, whole}
use Rattle.netlist.specs.Order.{◌or_else◌, here, past, Given, Stops, Needs}
use Rattle.netlist.proofs.Fits.{clash, both}
use Rattle.netlist.proofs.Order.{One, Some, else_one, else_some, given_one, given?, stops_one, stops?, stops_value, needs_one, needs_some, needs_room, needs_value}
use Rattle.simulate.specs.Clock.{inputs, outputs}
use Rattle.simulate.specs.Step.{only_bits, words_fit, step_fits}
use Rattle.simulate.specs.Run.{clocks, run_fits}

-- ── The row ─────────────────────────────────────────────────────────────────────────────────

-- An earlier refusal, 13 where the test fails, 12, or n.
abbrev pub Row : Said → Bool → ℕ → ℕ → Said → Type 0
Row c test n room = Stops c or_else Given (test ≡ false) (whole 13) or_else Needs n room

pub row_one : (c : Said) (test : Bool) (n room : ℕ) → One (Row c test n room)
row_one c test n room = else_one (stops_one c) (else_one (given_one (test ≡ false) (whole 13)) (needs_one n room))

pub row_some : (c : Said) (test : Bool) (n room : ℕ) → Some (Row c test n room)
row_some c test n room = else_some (stops? c) (else_some (given? (whole 13) (Bool-discrete test false)) (needs_some n room))

pub row_held : {test : Bool} → test ≡ true → (x : Said) → ¬ Given (test ≡ false) (whole 13) x
row_held e x (f, q) = clash (cc)

pub row_goes : {test : Bool} {n room o : ℕ} → test ≡ true → n ≤ room → o ≡ n → Row (value 0) test n room (value o)
row_goes e h q = past (λ x s. s) (past (row_held e) (needs_room h q))

-- The number that is given was to be written, there is room for it, and the test held.
pub row_value : (c : Said) (test : Bool) {n room o : ℕ} → Row c test n room (value o) → (test ≡ true) × (o ≡ n) × (n ≤ room)
row_value c test r = go test (stops_value c r).2
  where
    go : (b : Bool) {n room o : ℕ} → (Given (b ≡ false) (whole 13) or_else Needs n room) (value o) → (b ≡ true) × (o ≡ n) × (n ≤ room)
    go b (here (f, q)) = clash (cc)
    go true (past f a) = let k = needs_value a in (refl, k.0, k.1)
    go false (past f a) = absurd (f (whole 13) (refl, refl))

-- ── Steps and runs ──────────────────────────────────────────────────────────────────────────

pub step_facts : (net : Netlist) (words vector : List ℕ) → step_fits net words vector ≡ true
    → (length vector ≡ inputs net) × (only_bits vector ≡ true) × (words_fit net words net.edges ≡ true)
step_facts net words vector f =
    let a = both (eqb (length vector) (inputs net)) _ f in
    let b = both (only_bits vector) _ a.1 in
    (eqb-true (length vector) (inputs net) a.0, b.0, (both (words_fit net words net.edges) true b.1).0)

-- A step that is not refused: "one vector", of bits, and no "machine word with a bit at or above its edge's count".
pub record StepGoes (net : Netlist) (words vector : List ℕ) (room o : ℕ) : Type 0 where
  pub one_vector : length vector ≡ inputs net
  pub vector_bits : only_bits vector ≡ true
  pub all_words_fit : words_fit net words net.edges ≡ true
  pub number : o ≡ outputs net
  pub has_room : outputs net ≤ room

pub step_goes : (c : Said) (net : Netlist) (words vector : List ℕ) (room o : ℕ) → Row c (step_fits net words vector) (outputs net) room (value o) → StepGoes net words vector room o
step_goes c net words vector room o q =
    let s = row_value c (step_fits net words vector) q in
    let f = step_facts net words vector s.0 in
    record { one_vector = f.0; vector_bits = f.1; all_words_fit = f.2; number = s.1; has_room = s.2 }

pub step_says : (net : Netlist) (words vector : List ℕ) (room o : ℕ) → StepGoes net words vector room o → Row (value 0) (step_fits net words vector) (outputs net) room (value o)
step_says net words vector room o g =
    row_goes (rw (eq-eqb (length vector) (inputs net) g.one_vector, g.vector_bits, g.all_words_fit)) g.has_room g.number

-- A run that is not refused: its bytes are whole vectors, of bits.
pub record RunGoes (net : Netlist) (vectors : List ℕ) (room o : ℕ) : Type 0 where
  pub whole_vectors : length vectors ≡ clocks net vectors * inputs net
  pub vector_bits : only_bits vectors ≡ true
  pub number : o ≡ clocks net vectors * outputs net
  pub has_room : clocks net vectors * outputs net ≤ room

pub run_goes : (c : Said) (net : Netlist) (vectors : List ℕ) (room o : ℕ) → Row c (run_fits net vectors) (clocks net vectors * outputs net) room (value o)
    → RunGoes net vectors room o
run_goes c net vectors room o q =
    let n = length vectors in
    let i = inputs net in
    let s = row_value c (run_fits net vectors) q in
    let a = both (eqb (n % i) 0) _ s.0 in
    let b = both (only_bits vectors) true a.1 in
    record { whole_vectors = omega (arith, div-add-mod' n i, eqb-true (n % i) 0 a.0); vector_bits = b.0; number = s.1; has_room = s.2 }

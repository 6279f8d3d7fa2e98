-- What is to be proved of stepping and running, beside the calls. Each is a type; proofs/theorems has a term of it.
--   SomeRun, OneRun, SomeStep, OneStep    no answer is free
--   HasPins             a netlist that reads has an input and an output
--   WordsUnread         what a step does not look at
--   RunIsStepping, StepsGoOn              a run is steps, and none of them is refused
--   TraceExists, TraceUnique, RunIsTrace  a run puts out the values of the trace
--   RunsAlike           netlists whose traces agree run alike
use Rattle.std.specs.Prelude.{◌≡◌, true, List, ◌++◌, ℕ, suc, ◌+◌, ◌*◌, ◌<◌, ◌≤◌, length, get_or, take, drop}
use Rattle.theory.specs.Clock.{gather}
use Rattle.netlist.specs.declared.Netlist.{Netlist}
use Rattle.netlist.specs.Answer.{Said, value}
use Rattle.netlist.specs.Net.{graph_of}
use Rattle.netlist.specs.Circuit.{TraceIn}
use Rattle.netlist.specs.Read.{Reads}
use Rattle.netlist.specs.Write.{joined}
use Rattle.netlist.specs.Theorems.{Same}
use Rattle.simulate.specs.declared.Machine.{Machine}
use Rattle.simulate.specs.Clock.{earlier, inputs, outputs}
use Rattle.simulate.specs.Step.{only_bits, words_fit, Steps}
use Rattle.simulate.specs.Run.{clocks_from, Runs}

-- ── The calls ───────────────────────────────────────────────────────────────────────────────

-- Every call has an outcome, and one only.
abbrev pub SomeRun : Type 0
SomeRun = (t vectors old : List ℕ) → (s : Said) × (new : List ℕ) × Runs t vectors old s new

abbrev pub OneRun : Type 0
OneRun = (t vectors old : List ℕ) (s s' : Said) (new new' : List ℕ) → Runs t vectors old s new → Runs t vectors old s' new' → (s ≡ s') × (new ≡ new')

abbrev pub SomeStep : Type 0
SomeStep = (net : Netlist) (m : Machine) (vector old : List ℕ) → (s : Said) × (m' : Machine) × (new : List ℕ) × Steps net m vector old s m' new

abbrev pub OneStep : Type 0
OneStep = (net : Netlist) (m : Machine) (vector old : List ℕ) (s s' : Said) (m' m'' : Machine) (new new' : List ℕ)
    → Steps net m vector old s m' new → Steps net m vector old s' m'' new' → (s ≡ s') × (m' ≡ m'') × (new ≡ new')

-- "A vector holds one byte, 0 or 1, per input in node order; outputs come the same way.": a netlist that reads has one of each at least, as each node is joined to both (rule 7).
abbrev pub HasPins : Type 0
HasPins = (t : List ℕ) (net : Netlist) → Reads t (value 0) net → (0 < inputs net) × (0 < outputs net)

-- "words past the E-th are neither read nor changed", and rows past the netlist are not read.
abbrev pub WordsUnread : Type 0
WordsUnread = (net net' : Netlist) (m k m' : Machine) (vector old : List ℕ) (s : Said) (new : List ℕ)
    → Same net net' → ((e : ℕ) → e < net.edges → get_or m.words e 0 ≡ get_or k.words e 0)
    → Steps net m vector old s m' new
    → (k' : Machine) × Steps net' k vector old s k' new
    × ((e : ℕ) → e < net.edges → get_or m'.words e 0 ≡ get_or k'.words e 0)
    × (drop net.edges m'.words ≡ drop net.edges m.words) × (drop net.edges k'.words ≡ drop net.edges k.words)

-- "Running is stepping from the start values, one clock per vector. Each clock takes the words that the last one left."
abbrev pub RunIsStepping : Type 0
RunIsStepping = (t : List ℕ) (net : Netlist) (m m' : Machine) (n o : ℕ) (vectors old new : List ℕ)
    → Reads t (value 0) net → Steps net m (take (inputs net) vectors) old (value o) m' new
    → (o ≡ outputs net) × (clocks_from net (suc n) m.words vectors ≡ take o new ++ clocks_from net n m'.words (drop (inputs net) vectors))

-- No step of a run is refused: the start values fit their edges' counts, and a step from words that fit leaves words that fit.
abbrev pub StepsGoOn : Type 0
StepsGoOn = (t : List ℕ) (net : Netlist) → Reads t (value 0) net
    → (words_fit net net.start net.edges ≡ true)
    × ((m : Machine) (vector old : List ℕ) → words_fit net m.words net.edges ≡ true → length vector ≡ inputs net → only_bits vector ≡ true → outputs net ≤ length old
    → (m' : Machine) × (new : List ℕ) × Steps net m vector old (value (outputs net)) m' new × (words_fit net m'.words net.edges ≡ true))

-- ── The trace ───────────────────────────────────────────────────────────────────────────────

-- "On an edge with w registers from u to v, v sees start value t while t is below w, and u's value at clock t − w after that.": of a netlist that reads, on any
-- inputs, some values do this at every clock, and one only at each node.
abbrev pub TraceExists : Type 0
TraceExists = (t : List ℕ) (net : Netlist) (ins : ℕ → ℕ → ℕ) → Reads t (value 0) net
    → (x : ℕ → ℕ → ℕ) × TraceIn net ins x

abbrev pub TraceUnique : Type 0
TraceUnique = (t : List ℕ) (net : Netlist) (ins x y : ℕ → ℕ → ℕ) → Reads t (value 0) net
    → TraceIn net ins x → TraceIn net ins y
    → (v k : ℕ) → v < net.nodes → x v k ≡ y v k

-- The byte of the input v at clock k.
abbrev pub byte_at : Netlist → List ℕ → ℕ → ℕ → ℕ
byte_at net vectors v k = get_or vectors (k * inputs net + earlier net 0 v) 0

-- A run puts out the trace's values.
abbrev pub RunIsTrace : Type 0
RunIsTrace = (t : List ℕ) (net : Netlist) (n : ℕ) (vectors : List ℕ) (x : ℕ → ℕ → ℕ)
    → Reads t (value 0) net → only_bits vectors ≡ true
    → TraceIn net (byte_at net vectors) x
    → clocks_from net n net.start vectors ≡ joined (λ k. gather (graph_of net).kind (λ v. x v k) 1 net.nodes) n

-- Two netlists with the same nodes whose traces agree at the outputs, on all inputs: "The two runs give the same answer, a refusal included, and leave equal buffers."
abbrev pub RunsAlike : Type 0
RunsAlike = (t t' : List ℕ) (net net' : Netlist) → Reads t (value 0) net → Reads t' (value 0) net'
    → net.nodes ≡ net'.nodes → ((v : ℕ) → v < net.nodes → get_or net.kind v 0 ≡ get_or net'.kind v 0)
    → ((ins x y : ℕ → ℕ → ℕ) → TraceIn net ins x → TraceIn net' ins y
    → (v k : ℕ) → v < net.nodes → get_or net.kind v 0 ≡ 1 → x v k ≡ y v k)
    → (vectors old : List ℕ) (s : Said) (new : List ℕ) → Runs t vectors old s new → Runs t' vectors old s new

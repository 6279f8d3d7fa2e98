-- The trace of a netlist that reads: it exists, it is the only one, and a run puts out its values.
--   trace_exists, trace_unique
--   vector_at, words_at  the vector of a clock, and the words before it
--   fits_at             these words fit their edges' counts
--   run_steps           the run steps as the theory's machine does
--   clocks_joined       what a run puts out, clock by clock
--   run_is_trace
use Prim.Native.Nat.{ℕ, zero, suc, ◌+◌, ◌*◌, ◌<◌}
use native.Mathlib.Omega.{arith}
use mathlib.Core.Path.{◌≡◌, refl, sym, ap, ap₂, ◌∙◌}
use mathlib.Core.Bool.{true}
use mathlib.Core.List.{List, ◌++◌}
use lib.ListN.{get_or, take, drop}
use lib.Seq.{get_or-take, get_or-drop, drop-drop}
use Rattle.theory.specs.Graph.{Wired}
use Rattle.theory.specs.Clock.{gather, value as value_of}
use Rattle.theory.specs.inner.Stepping.{Stepping}
use Rattle.theory.specs.Gate.{gate}
use Rattle.theory.proofs.clocks.Seen.{gather_same}
use Rattle.theory.proofs.clocks.Trace.{same_regs_refl, unique}
use Rattle.theory.proofs.clocks.Value.{value_trace}
use Rattle.theory.proofs.clocks.Step.{steps_trace}
use Rattle.netlist.specs.declared.Netlist.{Netlist}
use Rattle.graph.specs.Columns.{bit}
use Rattle.netlist.specs.Net.{graph_of, regs_of}
use Rattle.netlist.specs.Circuit.{LoopIn, TraceIn}
use Rattle.netlist.specs.Write.{joined}
use Rattle.netlist.proofs.Rows.{joined_same}
use Rattle.netlist.proofs.theorems.Lines.{lines_fact}
use Rattle.netlist.proofs.theorems.Sound.{reads_value, read_is_sound}
use Rattle.simulate.specs.Clock.{inputs, input_byte, values, output_values, words_after}
use Rattle.simulate.specs.Step.{only_bits}
use Rattle.simulate.specs.Run.{clocks_from}
use Rattle.simulate.specs.Theorems.{TraceExists, TraceUnique, byte_at, RunIsTrace}
use Rattle.simulate.proofs.Words.{moved_low, moved_top}
use Rattle.simulate.proofs.Bits.{before_less, joined_first, bits_take, bits_drop}
use Rattle.simulate.proofs.Clock.{bits_of, Fits, start_fits, after_in, value_input, value_gate, value_bit, fits_after}

-- What reads is sound, and a sound circuit has a trace, and one only.
pub trace_exists : TraceExists
trace_exists t net ins r =
    let s = read_is_sound t net r in
    (value_of gate (graph_of net) (regs_of net) ins, value_trace gate (graph_of net) s.wired (regs_of net) s.no_loop ins)

pub trace_unique : TraceUnique
trace_unique t net ins x y r X Y =
    let s = read_is_sound t net r in
    unique gate (graph_of net) s.wired (regs_of net) (regs_of net) (same_regs_refl (graph_of net) (regs_of net)) s.no_loop X Y (λ v k h q. refl)

-- ── The run, clock by clock ─────────────────────────────────────────────────────────────────

abbrev vector_at : Netlist → List ℕ → ℕ → List ℕ
vector_at net vectors k = take (inputs net) (drop (k * inputs net) vectors)

unfoldable words_at : Netlist → List ℕ → ℕ → List ℕ
words_at net vectors zero = net.start
words_at net vectors (suc k) = words_after net (words_at net vectors k) (vector_at net vectors k)

clocks_joined : (net : Netlist) (vectors : List ℕ) (n k : ℕ)
    → clocks_from net n (words_at net vectors k) (drop (k * inputs net) vectors) ≡ joined (λ j. output_values net (words_at net vectors (k + j)) (vector_at net vectors (k + j))) n
unfolding clocks_from joined words_at
clocks_joined net vectors zero k = refl
clocks_joined net vectors (suc n) k =
    let out : ℕ → List ℕ = λ j. output_values net (words_at net vectors j) (vector_at net vectors j) in
    let e : k * inputs net + inputs net ≡ suc k * inputs net = omega arith in
    let first : k ≡ k + 0 = omega arith in
    let rest : (j : ℕ) → suc k + j ≡ k + suc j = λ j. omega arith in
    ap₂ ◌++◌ (ap out first)
    (ap (clocks_from net n (words_at net vectors (suc k))) (drop-drop (inputs net) (k * inputs net) vectors ∙ ap (λ i. drop i vectors) e)
    ∙ clocks_joined net vectors n (suc k) ∙ joined_same (λ j. out (suc k + j)) (λ j. out (k + suc j)) n (λ j l. ap out (rest j)))
    ∙ sym (joined_first (λ j. out (k + j)) n)

module _ (net : Netlist) (wired : Wired (graph_of net)) (no_loop : ¬ LoopIn net) (starts : Fits net net.start)
    (vectors : List ℕ) (b : only_bits vectors ≡ true) where
  vector_bits : (k : ℕ) → only_bits (vector_at net vectors k) ≡ true
  vector_bits k = bits_take (inputs net) (drop (k * inputs net) vectors) (bits_drop (k * inputs net) vectors b)

  fits_at : (k : ℕ) → Fits net (words_at net vectors k)
  unfolding words_at
  fits_at zero = starts
  fits_at (suc k) = fits_after net wired no_loop (words_at net vectors k) (vector_at net vectors k) (vector_bits k) (fits_at k)

  value_at : ℕ → ℕ → ℕ
  value_at v k = values net (words_at net vectors k) (vector_at net vectors k) v

  byte_at_clock : (v k : ℕ) → v < net.nodes → (graph_of net).kind v ≡ 0 → input_byte net (vector_at net vectors k) v ≡ byte_at net vectors v k
  byte_at_clock v k h q = get_or-take (inputs net) (drop (k * inputs net) vectors) _ 0 (before_less net 0 v net.nodes q h) ∙ get_or-drop (k * inputs net) vectors _ 0

  run_steps : Stepping gate (graph_of net) (regs_of net) (byte_at net vectors) value_at (λ k. bits_of (words_at net vectors k))
  unfolding words_at value_at
  run_steps = record {
    begins = λ e k he hk. refl;
    shifts = λ t e k he h. ap (λ w. bit w k) (after_in net (words_at net vectors t) (vector_at net vectors t) e he) ∙ moved_low ((regs_of net).count e) (get_or (words_at net vectors t) e 0) (value_at ((graph_of net).src e) t) k h;
    enters = λ t e k he q.
        ap (λ w. bit w k) (after_in net (words_at net vectors t) (vector_at net vectors t) e he)
        ∙ moved_top (get_or (words_at net vectors t) e 0) (value_at ((graph_of net).src e) t) ((regs_of net).count e) k q (fits_at t e he)
        (value_bit net wired no_loop (words_at net vectors t) (vector_at net vectors t) (vector_bits t) ((graph_of net).src e) (wired.src_in e he));
    at_input = λ v t h q. value_input net wired no_loop (words_at net vectors t) (vector_at net vectors t) v h q ∙ byte_at_clock v t h q;
    at_gate = λ v t h q. value_gate net wired no_loop (words_at net vectors t) (vector_at net vectors t) v h q;
  }

  -- Each clock puts out the values of the steps' trace, which is the only one.
  clocks_trace : (x : ℕ → ℕ → ℕ) → TraceIn net (byte_at net vectors) x
      → (n : ℕ) → clocks_from net n net.start vectors ≡ joined (λ k. gather (graph_of net).kind (λ v. x v k) 1 net.nodes) n
  unfolding words_at output_values value_at
  clocks_trace x X n =
      let out : ℕ → List ℕ = λ k. output_values net (words_at net vectors k) (vector_at net vectors k) in
      let e : 0 ≡ 0 * inputs net = omega arith in
      let f : (k : ℕ) → 0 + k ≡ k = λ k. omega arith in
      let Y = steps_trace gate (graph_of net) (regs_of net) run_steps in
      let same = unique gate (graph_of net) wired (regs_of net) (regs_of net) (same_regs_refl (graph_of net) (regs_of net)) no_loop Y X (λ v k h q. refl) in
      ap (λ i. clocks_from net n net.start (drop i vectors)) e ∙ clocks_joined net vectors n 0
      ∙ joined_same (λ k. out (0 + k)) (λ k. gather (graph_of net).kind (λ v. x v k) 1 net.nodes) n
      (λ k l. ap out (f k) ∙ gather_same (graph_of net).kind (λ v. value_at v k) (λ v. x v k) 1 net.nodes (λ v h q. same v k h))

-- The words before each clock hold what their edges will show, bit by bit (`run_steps`), so the run is the theory's machine, and that runs through the trace.
pub run_is_trace : RunIsTrace
run_is_trace t net n vectors x r b X =
    let s = read_is_sound t net r in
    clocks_trace net s.wired s.no_loop (start_fits net ((lines_fact t net).0 (reads_value r).0).0) vectors b x X n

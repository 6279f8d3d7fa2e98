-- One clock of a netlist without a loop of no registers, by equations: so code may work its values out in any order.
--   bits_of, shown       the bits of the words; what an edge shows in this clock
--   shown_none, shown_some    its source's value where it has no register, else bit 0 of its word
--   Fits, fit_words, all_words_fit  words without a bit at or above their edges' counts, and the test of it
--   start_fits          the start values are such words
--   after_in, after_out, after_past, after_length    the words after a clock: the first E, and the others; how many
--   value_input, value_gate   the values fit the inputs and the gates
--   value_bit           they are bits
--   value_same, output_same, after_same    they look at the first E words only
--   fits_after          a clock leaves words that fit
--   output_length       a clock puts out one byte for each output
--   clocks_length       so do n clocks
use Prim.Native.Nat.{ℕ, zero, suc, ◌+◌, ◌*◌, ◌^◌, ◌<◌, ◌≤◌}
use native.Mathlib.Omega.{arith}
use native.Mathlib.Decide.{ℕ_discrete}
use mathlib.Core.Path.{◌≡◌, refl, sym, ap, ap₂, ◌∙◌, subst}
use mathlib.Core.Bool.{true}
use mathlib.Core.List.{List, [], ◌∷◌}
use lib.ListN.{length, get_or, take, drop, length-append, length-drop}
use lib.Dec.{ltb}
use lib.Seq.{get_or-drop}
use borrow.Author.Tests.{eq-eqb, ne_eqb, ltb-true, lt-ltb}
use borrow.Author.Count.{below_more}
use Rattle.theory.specs.Graph.{Wired}
use Rattle.theory.specs.Clock.{gather, sees, Trace, value}
use Rattle.theory.specs.inner.Registers.{SameRegs}
use Rattle.theory.specs.inner.Stepping.{edge_shows, shows_if}
use Rattle.theory.specs.Step.{holding, one_clock}
use Rattle.theory.specs.Gate.{gate}
use Rattle.theory.proofs.clocks.Seen.{gather_same, gather_length}
use Rattle.theory.proofs.clocks.Trace.{unique}
use Rattle.theory.proofs.clocks.Value.{value_trace}
use Rattle.theory.proofs.clocks.Step.{shows_first}
use Rattle.theory.proofs.clocks.Gate.{gate_bit}
use Rattle.netlist.specs.declared.Netlist.{Netlist}
use Rattle.graph.specs.Columns.{bit}
use Rattle.netlist.specs.Net.{graph_of, regs_of}
use Rattle.netlist.specs.Circuit.{LoopIn}
use Rattle.netlist.specs.Write.{joined}
use Rattle.netlist.specs.Theorems.{Fit}
use Rattle.netlist.proofs.Rows.{rows_at, rows_length}
use Rattle.netlist.proofs.Fits.{both, edge_fits_means}
use Rattle.simulate.specs.Clock.{earlier, inputs, outputs, input_byte, values, output_values, shifted, word_after, words_after}
use Rattle.simulate.specs.Step.{only_bits, words_fit}
use Rattle.simulate.specs.Run.{clocks_from}
use Rattle.simulate.proofs.Bits.{rows_past, bits_at}
use Rattle.simulate.proofs.Words.{moved_fits}

-- ── What an edge shows ──────────────────────────────────────────────────────────────────────

-- The bits of the words, edge by edge.
abbrev pub bits_of : List ℕ → ℕ → ℕ → ℕ
bits_of words e k = bit (get_or words e 0) k

abbrev pub shown : Netlist → List ℕ → (ℕ → ℕ) → ℕ → ℕ
shown net words x e = edge_shows (graph_of net) (regs_of net) (bits_of words) x e

module _ (net : Netlist) (words : List ℕ) (x : ℕ → ℕ) (e : ℕ) where
  pub shown_none : (regs_of net).count e ≡ 0 → shown net words x e ≡ x ((graph_of net).src e)
  unfolding edge_shows shows_if
  shown_none h = rw (eq-eqb ((regs_of net).count e) 0 h)

  pub shown_some : 0 < (regs_of net).count e → shown net words x e ≡ bit (get_or words e 0) 0
  unfolding edge_shows shows_if
  shown_some h = rw (ne_eqb ((regs_of net).count e) 0 (omega arith))

-- ── Words that fit their edges' counts ──────────────────────────────────────────────────────

abbrev pub Fits : Netlist → List ℕ → Type 0
Fits net words = (e : ℕ) → e < net.edges → get_or words e 0 < 2 ^ (regs_of net).count e

module _ (net : Netlist) (words : List ℕ) where
  pub fit_words : (n : ℕ) → words_fit net words n ≡ true → (e : ℕ) → e < n → get_or words e 0 < 2 ^ (regs_of net).count e
  unfolding words_fit
  fit_words zero h e l = absurd (omega arith)
  fit_words (suc n) h e l =
      let b = both (words_fit net words n) (ltb (get_or words n 0) (2 ^ (regs_of net).count n)) h in
      below_more (λ e. get_or words e 0 < 2 ^ (regs_of net).count e) n (fit_words n b.0) (ltb-true (get_or words n 0) (2 ^ (regs_of net).count n) b.1) e (omega arith)

  pub all_words_fit : (n : ℕ) → ((e : ℕ) → e < n → get_or words e 0 < 2 ^ (regs_of net).count e) → words_fit net words n ≡ true
  unfolding words_fit
  all_words_fit zero f = refl
  all_words_fit (suc n) f = rw (all_words_fit n (λ e l. f e (omega arith)), lt-ltb (get_or words n 0) (2 ^ (regs_of net).count n) (f n (omega arith)))

-- Rule 4.
pub start_fits : (net : Netlist) → Fit net → Fits net net.start
start_fits net f e h =
    (edge_fits_means net.nodes (graph_of net).kind (get_or net.from e 0) (get_or net.to e 0) (get_or net.count e 0) (get_or net.start e 0) (f.edge e h)).3

-- ── The words that a clock leaves ───────────────────────────────────────────────────────────

module _ (net : Netlist) (words vector : List ℕ) where
  pub after_in : (e : ℕ) → e < net.edges → get_or (words_after net words vector) e 0 ≡ word_after net words vector e
  unfolding words_after
  after_in e h = rows_at (word_after net words vector) 0 net.edges e (drop net.edges words) h

  pub after_length : net.edges ≤ length words → length (words_after net words vector) ≡ length words
  unfolding words_after
  after_length h = length-append (joined (λ e. word_after net words vector e ∷ []) net.edges) (drop net.edges words) ∙ omega (arith, rows_length (word_after net words vector) net.edges, length-drop net.edges words)

  pub after_past : (n : ℕ) → net.edges ≤ n → drop n (words_after net words vector) ≡ drop n words
  unfolding words_after
  after_past n h = rows_past (word_after net words vector) net.edges n words h

  pub after_out : (e : ℕ) → net.edges ≤ e → get_or (words_after net words vector) e 0 ≡ get_or words e 0
  after_out e h =
      let first : (l : List ℕ) → get_or l e 0 ≡ get_or (drop e l) 0 0 = λ l. ap (λ i. get_or l i 0) (let z : e ≡ e + 0 = omega arith in z) ∙ sym (get_or-drop e l 0 0) in
      first (words_after net words vector) ∙ ap (λ l. get_or l 0 0) (after_past e h) ∙ sym (first words)

-- ── The values of a clock ───────────────────────────────────────────────────────────────────

module _ (net : Netlist) (wired : Wired (graph_of net)) (no_loop : ¬ LoopIn net) where
  module _ (words vector : List ℕ) where
    at_zero : Trace gate (graph_of net) (holding (regs_of net) (bits_of words)) (λ u k. input_byte net vector u)
        (value gate (graph_of net) (holding (regs_of net) (bits_of words)) (λ u k. input_byte net vector u))
    at_zero = value_trace gate (graph_of net) wired (holding (regs_of net) (bits_of words)) no_loop (λ u k. input_byte net vector u)

    -- The values of a clock are those at clock 0 of the trace whose start values are the words, so they fit; and at clock 0 an edge shows its source or bit 0.
    pub value_input : (v : ℕ) → v < net.nodes → (graph_of net).kind v ≡ 0 → values net words vector v ≡ input_byte net vector v
    unfolding values one_clock
    value_input v h q = at_zero.at_input v 0 h q

    pub value_gate : (v : ℕ) → v < net.nodes → ¬ ((graph_of net).kind v ≡ 0)
        → values net words vector v ≡ gate ((graph_of net).kind v) (gather (graph_of net).dst (shown net words (values net words vector)) v net.edges)
    unfolding values one_clock sees
    value_gate v h q =
        at_zero.at_gate v 0 h q
        ∙ ap (gate ((graph_of net).kind v)) (gather_same (graph_of net).dst _ _ v net.edges (λ e l d. shows_first (graph_of net) (regs_of net) (bits_of words) _ e))

    pub value_bit : only_bits vector ≡ true → (v : ℕ) → v < net.nodes → values net words vector v ≤ 1
    value_bit b v h = go (ℕ_discrete ((graph_of net).kind v) 0)
      where
        go : Dec ((graph_of net).kind v ≡ 0) → values net words vector v ≤ 1
        go (yes q) = omega (arith, value_input v h q, bits_at vector (earlier net 0 v) b)
        go (no q) = omega (arith, value_gate v h q, gate_bit ((graph_of net).kind v) (gather (graph_of net).dst (shown net words (values net words vector)) v net.edges))

  -- ── The words, as far as they are looked at ─────────────────────────────────────────────────

  module _ (words words' vector : List ℕ) (same : (e : ℕ) → e < net.edges → get_or words e 0 ≡ get_or words' e 0) where
    -- Both are values of traces of one circuit, with start values that agree where they are read.
    pub value_same : (v : ℕ) → v < net.nodes → values net words vector v ≡ values net words' vector v
    unfolding values one_clock
    value_same v h =
        let R = regs_of net in
        let regs : SameRegs (graph_of net) (holding R (bits_of words)) (holding R (bits_of words')) =
        record { counts = λ e l. refl; starts = λ e t l k. ap (λ word. bit word t) (sym (same e l)) } in
        unique gate (graph_of net) wired (holding R (bits_of words)) (holding R (bits_of words')) regs no_loop (at_zero words vector) (at_zero words' vector)
        (λ u t l q. refl) v 0 h

    pub output_same : output_values net words vector ≡ output_values net words' vector
    unfolding output_values
    output_same = gather_same (graph_of net).kind (values net words vector) (values net words' vector) 1 net.nodes (λ v h q. value_same v h)

    pub after_same : (e : ℕ) → e < net.edges → word_after net words vector e ≡ word_after net words' vector e
    after_same e h = ap₂ (shifted ((regs_of net).count e)) (same e h) (value_same ((graph_of net).src e) (wired.src_in e h))

  -- The word moves down a bit and takes a bit at its top (`moved_fits`).
  pub fits_after : (words vector : List ℕ) → only_bits vector ≡ true → Fits net words → Fits net (words_after net words vector)
  fits_after words vector b f e h =
      subst (λ word. word < 2 ^ (regs_of net).count e) (sym (after_in net words vector e h))
      (moved_fits (get_or words e 0) (values net words vector ((graph_of net).src e)) ((regs_of net).count e) (f e h) (value_bit words vector b ((graph_of net).src e) (wired.src_in e h)))

-- ── What is put out ─────────────────────────────────────────────────────────────────────────

pub output_length : (net : Netlist) (words vector : List ℕ) → length (output_values net words vector) ≡ outputs net
unfolding output_values earlier
output_length net words vector = gather_length (graph_of net).kind (values net words vector) (λ u. u) 1 net.nodes

pub clocks_length : (net : Netlist) (n : ℕ) (words vectors : List ℕ) → length (clocks_from net n words vectors) ≡ n * outputs net
unfolding clocks_from
clocks_length net zero words vectors = omega arith
clocks_length net (suc n) words vectors =
    let now = take (inputs net) vectors in
    let rest = clocks_from net n (words_after net words now) (drop (inputs net) vectors) in
    length-append (output_values net words now) rest
    ∙ ap₂ ◌+◌ (output_length net words now) (clocks_length net n (words_after net words now) (drop (inputs net) vectors)) ∙ omega arith

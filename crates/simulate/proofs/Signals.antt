-- The parts of one clock, over the lists of a netlist.
--   entered_at          each input has its byte
--   shown_at, shown_stays   each edge with a register shows it; the nodes' signals stay
--   entered_length, entered_bits    the signals that a clock begins with: as many as before, and bits
--   outputs_put         the outputs' signals stand in node order
--   shifts_in, shifts_out, shifts_length    each edge's word is moved on, and no other word is; they are as many
--   net_movable         the words of a netlist can be moved on
use Prim.Native.Nat.{ℕ, ◌+◌, ◌%◌, ◌<◌, ◌≤◌}
use native.Mathlib.Omega.{arith}
use native.Mathlib.Nat.{div-one}
use native.Mathlib.Decide.{ℕ_discrete}
use mathlib.Core.Path.{◌≡◌, sym, ap, ◌∙◌}
use mathlib.Core.List.{List, map}
use lib.ListN.{length}
use lib.Seq.{sets, take_all}
use borrow.Author.Tests.{eq-eqb}
use Rattle.theory.specs.Clock.{gather}
use Rattle.theory.proofs.clocks.Seen.{gather_map}
use Rattle.graph.specs.Columns.{at, bit}
use Rattle.gates.specs.inner.Gates.{AllBits}
use Rattle.netlist.specs.declared.Netlist.{Netlist}
use Rattle.netlist.specs.Net.{graph_of}
use Rattle.netlist.proofs.Fits.{edge_fits_means}
use Rattle.netlist.proofs.Run.{fit_rows, fit_wired}
use Rattle.simulate.specs.declared.lists.Lists.{Lists}
use Rattle.simulate.specs.Clock.{earlier}
use Rattle.simulate.specs.inner.Lists.{Touched}
use Rattle.simulate.specs.inner.Signals.{with_inputs, with_registers, with_outputs, shifted_at, with_shifts, Movable}
use Rattle.simulate.specs.inner.Ran.{Steppable}
use Rattle.simulate.proofs.Clock.{Fits}
use Rattle.simulate.proofs.Listed.{mark_some, mark_has, listed_item, listed_place, listed_apart}
use Rattle.simulate.proofs.Written.{written_length, written_other, written_at, written_bits, written_run}

-- The signals that a clock begins with.
module _ (l : Lists) (vector words sig : List ℕ) where
  abbrev pub entered : List ℕ
  entered = with_registers l.registers (length l.registers) words (with_inputs l.inputs (length l.inputs) vector sig)

  pub entered_length : length entered ≡ length sig
  entered_length = written_length _ _ (length l.registers) _ ∙ written_length _ _ (length l.inputs) sig

  pub entered_bits : AllBits vector → AllBits sig → AllBits entered
  entered_bits a b = written_bits _ _ (length l.registers) _ (λ i h. omega arith) (written_bits _ _ (length l.inputs) sig (λ i h. a i) b)

module _ (net : Netlist) (l : Lists) (t : Touched net l) where
  -- ── The pins and the registers ────────────────────────────────────────────────────────────

  module _ (vector sig : List ℕ) where
    pub entered_at : net.nodes ≤ length sig → (v : ℕ) → v < net.nodes → at net.kind v ≡ 0
        → at (with_inputs l.inputs (length l.inputs) vector sig) v ≡ at vector (earlier net 0 v)
    unfolding earlier
    entered_at n v h q =
        let p = listed_place t.inputs v h q in
        ap (at (with_inputs l.inputs (length l.inputs) vector sig)) (sym p.1)
        ∙ written_at (at l.inputs) (at vector) (length l.inputs) sig (listed_apart t.inputs) (λ i k. omega (arith, (listed_item t.inputs i k).0)) _ p.0

  module _ (words sig : List ℕ) where
    pub shown_at : 512 + net.edges ≤ length sig → (e : ℕ) → e < net.edges → ¬ (at net.count e ≡ 0)
        → at (with_registers l.registers (length l.registers) words sig) (512 + e) ≡ bit (at words e) 0
    shown_at n e h q =
        let p = listed_place t.registers e h (mark_some net.count e q) in
        ap (λ k. at (with_registers l.registers (length l.registers) words sig) (512 + k)) (sym p.1)
        ∙ written_at (λ i. 512 + at l.registers i) (λ i. at words (at l.registers i) % 2) (length l.registers) sig
        (λ i j a b z. listed_apart t.registers i j a b (omega arith)) (λ i k. omega (arith, (listed_item t.registers i k).0)) _ p.0
        ∙ ap (λ k. at words k % 2) p.1 ∙ simp div-one

    pub shown_stays : (v : ℕ) → v < 512 → at (with_registers l.registers (length l.registers) words sig) v ≡ at sig v
    shown_stays v h = written_other _ _ (length l.registers) sig v (λ i k q. omega arith)

  pub outputs_put : (sig : List ℕ) (at0 : ℕ) (out : List ℕ)
      → with_outputs l.outputs (length l.outputs) sig at0 out ≡ sets out at0 (gather (at net.kind) (at sig) 1 net.nodes)
  outputs_put sig at0 out =
      written_run (at sig) l.outputs at0 (length l.outputs) out (omega arith)
      ∙ ap (sets out at0) (ap (map (at sig)) (take_all (length l.outputs) l.outputs (omega arith) ∙ t.outputs.items) ∙ gather_map (at sig) (at net.kind) (λ u. u) 1 net.nodes)

  -- ── The words ─────────────────────────────────────────────────────────────────────────────

  module _ (sig words : List ℕ) where
    abbrev after : List ℕ
    after = with_shifts l.registers (length l.registers) net.from net.count sig words

    pub shifts_length : length after ≡ length words
    shifts_length = written_length _ _ (length l.registers) words

    -- An edge without a register is not listed, and keeps its word.
    pub shifts_in : net.edges ≤ length words → (e : ℕ) → e < net.edges → at after e ≡ shifted_at net.from net.count sig words e
    shifts_in n e h = go (ℕ_discrete (at net.count e) 0)
      where
        go : Dec (at net.count e ≡ 0) → at after e ≡ shifted_at net.from net.count sig words e
        go (yes z) =
            written_other _ _ (length l.registers) words e (λ i k q. omega (arith, mark_has net.count (at l.registers i) (listed_item t.registers i k).1, ap (at net.count) q))
            ∙ rw (eq-eqb (at net.count e) 0 z)
        go (no z) =
            let p = listed_place t.registers e h (mark_some net.count e z) in
            ap (at after) (sym p.1)
            ∙ written_at (at l.registers) (λ i. shifted_at net.from net.count sig words (at l.registers i)) (length l.registers) words
            (listed_apart t.registers) (λ i k. omega (arith, (listed_item t.registers i k).0)) _ p.0
            ∙ ap (shifted_at net.from net.count sig words) p.1

    pub shifts_out : (e : ℕ) → net.edges ≤ e → at after e ≡ at words e
    shifts_out e h = written_other _ _ (length l.registers) words e (λ i k q. omega (arith, (listed_item t.registers i k).0))

  pub net_movable : Steppable net → (words : List ℕ) (size : ℕ) → length words ≡ 1024 → 512 ≤ size
      → Fits net words → Movable l.registers net.from net.count words size
  net_movable ok words size n m f =
      let h = fit_rows net ok.fit in record {
        apart = listed_apart t.registers;
        each = λ i k.
            let e = at l.registers i in
            let p = listed_item t.registers i k in record {
              in_columns = omega (arith, h.1, p.0);
              in_words = omega (arith, h.1, p.0);
              source = omega (arith, (fit_wired net ok.fit).src_in e p.0, h.0);
              some = mark_has net.count e p.1;
              few = (edge_fits_means net.nodes (graph_of net).kind _ _ _ _ (ok.fit.edge e p.0)).2;
              fits = f e p.0;
            };
      }

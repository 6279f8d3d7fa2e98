-- The original on zeros, followed in a ring of 64 rows.
--   asked_gate, asked_source    no input is asked for; what a node that is asked for sees comes of nodes that are asked for
--   shows               what an edge shows stands in its slot, if its source's value does
--   Held                of each node the last 32 values up to clock s, or to the last that is asked for, are in the ring
--   held_start, held_end    before clock 0; when no clock is left that is asked for
--   held_put            a value put into a row from clock s on
--   held_on             the values of the next n clocks are there too
--   node_right          what the gate makes of its slots is the node's value, if they show what its edges show
--   apart               two slots of the rows are one only if their rows and their columns are
use Prim.Native.Nat.{ℕ, zero, suc, ◌+◌, ◌-◌, ◌*◌, ◌/◌, ◌%◌, ◌<◌, ◌≤◌, min}
use native.Mathlib.Omega.{arith}
use native.Mathlib.Decide.{ℕ_discrete, dec_lt}
use mathlib.Core.Path.{◌≡◌, sym, ap, ◌∙◌}
use mathlib.Core.List.{List, map}
use lib.ListN.{length, set, length-set, length-map, get_or-eq_default}
use lib.Seq.{get_or-set_other}
use Rattle.theory.specs.Clock.{gather, seen, sees}
use Rattle.theory.specs.Gate.{gate}
use Rattle.theory.specs.Lag.{up, down}
use Rattle.theory.specs.Move.{quiet}
use Rattle.theory.proofs.clocks.Seen.{seen_early, seen_late, gather_same}
use Rattle.theory.proofs.clocks.Value.{value_trace}
use Rattle.graph.specs.Columns.{at, bit}
use Rattle.graph.proofs.Parts.{part_map, map_at}
use Rattle.gates.specs.inner.Gates.{part, AllBits}
use Rattle.gates.proofs.Row.{bits_set}
use Rattle.netlist.specs.declared.Netlist.{Netlist}
use Rattle.netlist.specs.Net.{graph_of, regs_of}
use Rattle.netlist.specs.Circuit.{TraceIn}
use Rattle.netlist.proofs.Run.{fit_wired}
use Rattle.simulate.specs.inner.Ran.{Steppable}
use Rattle.simulate.proofs.Seen.{Entering}
use Rattle.lags.proofs.Laws.{lag_label}
use Rattle.moves.specs.inner.Labels.{Labelled}
use Rattle.moves.proofs.Labels.{low_nodes, new_fits}
use Rattle.starts.specs.inner.Ring.{row, quietly, AskedAt, Followed, NothingYet, edge_slot, Slots}
use Rattle.starts.proofs.Slots.{slot_early, slot_late}

-- ── The values of the original ──────────────────────────────────────────────────────────────

quiet_trace : (net : Netlist) → Steppable net → TraceIn net quiet (quietly net)
quiet_trace net ok = value_trace gate (graph_of net) (fit_wired net ok.fit) (regs_of net) ok.no_loop quiet

module _ (net : Netlist) (lab : List ℕ) (m : Labelled net lab) where
  -- An input's lag is 0.
  asked_gate : (v s : ℕ) → v < net.nodes → AskedAt lab s v → ¬ (at net.kind v ≡ 0)
  asked_gate v s h a k =
      let z = m.legal.pinned v h (omega arith) in
      omega (arith, lag_label (at lab v), ap up z, ap down z)

  -- By w + r(v) − r(u) ≥ 0.
  pub asked_source : (e s t : ℕ) → e < net.edges → AskedAt lab s (at net.to e) → at net.count e + t ≡ s → AskedAt lab t (at net.from e)
  asked_source e s t h a q = omega (arith, new_fits net lab m e h)

pub shows : (net : Netlist) (ring : List ℕ) → at ring 32768 ≡ 0 → at ring 32769 ≡ 1 → (s e : ℕ)
    → ((t : ℕ) → at net.count e + t ≡ s → at ring (row t + at net.from e) ≡ quietly net (at net.from e) t)
    → at ring (edge_slot net s e) ≡ seen (graph_of net) (regs_of net) (quietly net) e s
shows net ring zeroth one s e late = go (dec_lt s w)
  where
    u : ℕ
    u = at net.from e

    w : ℕ
    w = at net.count e

    either : (b : ℕ) → b ≤ 1 → at ring (32768 + b) ≡ b
    either zero l = zeroth
    either (suc zero) l = one
    either (suc (suc b)) l = absurd (omega arith)

    go : Dec (s < w) → at ring (edge_slot net s e) ≡ seen (graph_of net) (regs_of net) (quietly net) e s
    go (yes h) =
        ap (at ring) (slot_early u w (at net.start e) s h) ∙ either (bit (at net.start e) s) (omega arith)
        ∙ sym (seen_early (graph_of net) (regs_of net) (quietly net) e s h)
    go (no h) =
        ap (at ring) (slot_late u w (at net.start e) s (omega arith)) ∙ late (s - w) (omega arith)
        ∙ sym (seen_late (graph_of net) (regs_of net) (quietly net) e s (s - w) (omega arith))

-- ── The ring ────────────────────────────────────────────────────────────────────────────────

-- Before clock s. When a node is asked for no more, its last values stay.
pub record Held (net : Netlist) (lab : List ℕ) (s : ℕ) (ring : List ℕ) : Type 0 where
  pub size : length ring ≡ 32770
  pub bits : AllBits ring
  pub zeroth : at ring 32768 ≡ 0
  pub one : at ring 32769 ≡ 1
  pub past : (v t : ℕ) → v < net.nodes → t < s → AskedAt lab t v → min s (16384 - at lab v) ≤ t + 32 → at ring (row t + v) ≡ quietly net v t

pub held_start : (net : Netlist) (lab ring : List ℕ) → length ring ≡ 32770 → NothingYet ring → Held net lab 0 ring
held_start net lab ring size e = record {
  size = size;
  bits = λ k. bit_at k (dec_lt k 32769) (ℕ_discrete k 32769);
  zeroth = e.zero_all 32768 (omega arith);
  one = e.one;
  past = λ v t h a. absurd (let z : ⊥ = omega arith in z);
}
  where
    bit_at : (k : ℕ) → Dec (k < 32769) → Dec (k ≡ 32769) → at ring k ≤ 1
    bit_at k (yes h) d = omega (arith, e.zero_all k h)
    bit_at k (no h) (yes q) = omega (arith, ap (at ring) q, e.one)
    bit_at k (no h) (no q) = omega (arith, get_or-eq_default ring 0 {n = k} (omega arith))

pub held_end : (net : Netlist) (lab : List ℕ) (s : ℕ) (ring : List ℕ) → ((v : ℕ) → v < net.nodes → 16384 ≤ s + at lab v) → Held net lab s ring → Followed net lab ring
held_end net lab s ring all w = record {
  bits = w.bits;
  zeroth = w.zeroth;
  one = w.one;
  last = λ v t h a l. w.past v t h (omega (arith, all v h)) a (omega arith);
}

pub apart : (a b u v : ℕ) → u < 512 → v < 512 → row a + u ≡ row b + v → (a % 64 ≡ b % 64) × (u ≡ v)
apart a b u v h l q = (omega arith, omega arith)

-- ── Further ─────────────────────────────────────────────────────────────────────────────────

module _ (net : Netlist) (lab : List ℕ) (m : Labelled net lab) (s : ℕ) (ring : List ℕ) (held : Held net lab s ring) where
  -- Of a node that is listed at clock s, and for less than 32 clocks after the last at which the list was looked through: where its own of 64 clocks before stood.
  -- That is none of its last 32 before the first clock at which it is asked for no more.
  pub held_put : (t v x : ℕ) → s ≤ t → t < s / 32 * 32 + 32 → v < 512 → s / 32 * 32 + at lab v < 16384 → x ≤ 1 → Held net lab s (set ring (row t + v) x)
  held_put t v x h l low near b = record {
    size = length-set ring here x ∙ held.size;
    bits = bits_set ring here x b held.bits;
    zeroth = get_or-set_other ring here 32768 x 0 (let z : ¬ (32768 ≡ here) = λ q. omega (arith, low) in z) ∙ held.zeroth;
    one = get_or-set_other ring here 32769 x 0 (let z : ¬ (32769 ≡ here) = λ q. omega (arith, low) in z) ∙ held.one;
    past = λ u i k a c d. get_or-set_other ring here (row i + u) x 0 (stays u i k a d) ∙ held.past u i k a c d;
  }
    where
      here : ℕ
      here = row t + v

      stays : (u i : ℕ) → u < net.nodes → i < s → min s (16384 - at lab u) ≤ i + 32 → ¬ (row i + u ≡ here)
      stays u i k a c q =
          let z = apart i t u v (omega (arith, low_nodes net lab m)) low q in
          omega (arith, z.0, ap (at lab) z.1, near)

  pub held_on : (n : ℕ) → ((v t : ℕ) → v < net.nodes → s ≤ t → t < s + n → AskedAt lab t v → at ring (row t + v) ≡ quietly net v t) → Held net lab (s + n) ring
  held_on n more = record { size = held.size; bits = held.bits; zeroth = held.zeroth; one = held.one; past = λ v t h a b c. go v t h a b c (dec_lt t s) }
    where
      go : (v t : ℕ) → v < net.nodes → t < s + n → AskedAt lab t v → min (s + n) (16384 - at lab v) ≤ t + 32 → Dec (t < s) → at ring (row t + v) ≡ quietly net v t
      go v t h a b c (yes z) = held.past v t h z b (omega arith)
      go v t h a b c (no z) = more v t h (omega arith) a b

pub node_right : (net : Netlist) (lab : List ℕ) → Steppable net → Labelled net lab → (ins first : List ℕ) → Entering net ins first → (slots ring : List ℕ) → net.edges ≤ length ins → net.edges ≤ length slots
    → (s v : ℕ) → v < net.nodes → AskedAt lab s v → Slots ins net s (at first v) (at first (suc v)) slots
    → ((e : ℕ) → e < net.edges → at net.to e ≡ v → at ring (edge_slot net s e) ≡ seen (graph_of net) (regs_of net) (quietly net) e s)
    → gate (at net.kind v) (map (at ring) (part slots (at first v) (at first (suc v)))) ≡ quietly net v s
unfolding sees
node_right net lab ok m ins first en slots ring rows size s v in_nodes a right edge_right =
    ap (gate (at net.kind v)) (its
    ∙ gather_same (at net.to) shown (λ e. seen (graph_of net) (regs_of net) (quietly net) e s) v net.edges edge_right)
    ∙ sym ((quiet_trace net ok).at_gate v s in_nodes (asked_gate net lab m v s in_nodes a))
  where
    shown : ℕ → ℕ
    shown e = at ring (edge_slot net s e)

    lo : ℕ
    lo = at first v

    hi : ℕ
    hi = at first (suc v)

    its : map (at ring) (part slots lo hi) ≡ gather (at net.to) shown v net.edges
    its =
        let r = en.rising v in_nodes in
        let l = en.within v in_nodes in
        let z = length-map ins shown in
        sym (part_map (at ring) slots (map shown ins) (hi - lo) lo lo (omega arith) (omega arith)
        (λ k b. map_at shown ins (lo + k) (omega arith) ∙ ap (at ring) (sym (right (lo + k) (omega arith) (omega arith)))))
        ∙ en.its shown (map shown ins) (omega arith) (λ k b. map_at shown ins k (omega arith)) v in_nodes

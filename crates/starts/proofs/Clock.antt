-- One clock of the nodes of a list.
--   held_next           the ring after it
-- On paper: what a node that is asked for in clock s sees comes of nodes that are asked for. Those of the same clock stand before it in the list, and the others
-- are at most 32 clocks back, so they are in the ring.
use Prim.Native.Nat.{ℕ, zero, suc, ◌+◌, ◌*◌, ◌/◌, ◌<◌, ◌≤◌}
use native.Mathlib.Omega.{arith}
use native.Mathlib.Decide.{ℕ_discrete}
use mathlib.Core.Path.{◌≡◌, sym, ap, ◌∙◌, subst}
use mathlib.Core.List.{List, map}
use lib.ListN.{length, set}
use lib.Seq.{get_or-set_same, get_or-set_other}
use Rattle.theory.specs.Clock.{seen}
use Rattle.theory.specs.Gate.{gate}
use Rattle.theory.proofs.clocks.Gate.{gate_bit}
use Rattle.graph.specs.Columns.{at}
use Rattle.gates.specs.inner.Gates.{part, evaluated}
use Rattle.netlist.specs.declared.Netlist.{Netlist}
use Rattle.netlist.specs.Net.{graph_of, regs_of}
use Rattle.netlist.proofs.Lowest.{count_low}
use Rattle.simulate.specs.inner.Ran.{Steppable}
use Rattle.moves.specs.inner.Labels.{Labelled}
use Rattle.moves.proofs.Labels.{from_node, low_nodes}
use Rattle.starts.specs.inner.Ring.{row, quietly, AskedAt, edge_slot, SlotsOf}
use Rattle.simulate.proofs.Seen.{Entering}
use Rattle.starts.proofs.Listed.{Listed}
use Rattle.starts.proofs.Held.{asked_source, shows, Held, held_put, held_on, node_right}

module _ (net : Netlist) (lab : List ℕ) (ok : Steppable net) (m : Labelled net lab) (ins first : List ℕ) (en : Entering net ins first) (s : ℕ) (list : List ℕ) (w : Listed net lab s list)
    (near : (i : ℕ) → i < length list → s / 32 * 32 + at lab (at list i) < 16384)
    (slots : List ℕ) (rows : net.edges ≤ length ins) (size : net.edges ≤ length slots) (right : SlotsOf list (length list) first ins net s slots) where
  -- The first i nodes of the list have their values of clock s.
  abbrev Done : ℕ → List ℕ → Type 0
  Done i ring = (j : ℕ) → j < i → AskedAt lab s (at list j) → at ring (row s + at list j) ≡ quietly net (at list j) s

  -- The source of an edge without a register is an earlier node of the list; another edge shows one of the last 32 values, or a start value.
  edge_right : (ring : List ℕ) (i e : ℕ) → Held net lab s ring → Done i ring → i < length list → e < net.edges → at net.to e ≡ at list i → AskedAt lab s (at list i)
      → at ring (edge_slot net s e) ≡ seen (graph_of net) (regs_of net) (quietly net) e s
  edge_right ring i e held done h l q a =
      shows net ring held.zeroth held.one s e
      (λ t r. go t r (asked_source net lab m e s t l (subst (AskedAt lab s) (sym q) a) r) (ℕ_discrete (at net.count e) 0))
    where
      u : ℕ
      u = at net.from e

      go : (t : ℕ) → at net.count e + t ≡ s → AskedAt lab t u → Dec (at net.count e ≡ 0) → at ring (row t + u) ≡ quietly net u t
      go t r b (yes z) =
          let k : s ≡ t = omega arith in
          let p = w.sources_first i e h l q z (subst (λ x. AskedAt lab x u) (sym k) b) in
          subst (λ x. at ring (row x + u) ≡ quietly net u x) k
          (subst (λ v. at ring (row s + v) ≡ quietly net v s) p.holds (done p.place p.within (subst (AskedAt lab s) (sym p.holds) (subst (λ x. AskedAt lab x u) (sym k) b))))
      go t r b (no z) = held.past u t (from_node net lab m e l) (omega arith) b (omega (arith, count_low net ok.fit e l))

  -- What the gate makes of the slots.
  abbrev given : List ℕ → ℕ → ℕ
  given ring v = gate (at net.kind v) (map (at ring) (part slots (at first v) (at first (suc v))))

  held_more : (ring : List ℕ) (i : ℕ) → i < length list → Held net lab s ring → Done i ring
      → let new = set ring (row s + at list i) (given ring (at list i)) in Held net lab s new × Done (suc i) new
  held_more ring i h held done = (
    held_put net lab m s ring held s v x (omega arith) (omega arith) low (near i h) (gate_bit (at net.kind v) (map (at ring) (part slots (at first v) (at first (suc v))))),
    λ j k a. last j k a (ℕ_discrete (at list j) v) (ℕ_discrete j i),
  )
    where
      v : ℕ
      v = at list i

      low : v < 512
      low = omega (arith, w.nodes_only i h, low_nodes net lab m)

      here : ℕ
      here = row s + v

      x : ℕ
      x = given ring v

      last : (j : ℕ) → j < suc i → AskedAt lab s (at list j) → Dec (at list j ≡ v) → Dec (j ≡ i) → at (set ring here x) (row s + at list j) ≡ quietly net (at list j) s
      last j k a (yes z) d =
          subst (λ u. at (set ring here x) (row s + u) ≡ quietly net u s) (sym z)
          (get_or-set_same ring here x 0 (let y : here < length ring = omega (arith, low, held.size) in y)
          ∙ node_right net lab ok m ins first en slots ring rows size s v (w.nodes_only i h) (subst (AskedAt lab s) z a) (right i h)
          (λ e l q. edge_right ring i e held done h l q (subst (AskedAt lab s) z a)))
      last j k a (no z) (yes d) = absurd (z (ap (at list) d))
      last j k a (no z) (no d) =
          get_or-set_other ring here (row s + at list j) x 0 (let y : ¬ (row s + at list j ≡ here) = λ q. z (omega arith) in y) ∙ done j (omega arith) a

  held_all : (ring : List ℕ) → Held net lab s ring → (i : ℕ) → i ≤ length list
      → let new = evaluated net.kind list first slots (row s) i ring in Held net lab s new × Done i new
  unfolding evaluated
  held_all ring held zero h = (held, λ j k. absurd (let z : ⊥ = omega arith in z))
  held_all ring held (suc i) h = let b = held_all ring held i (omega arith) in held_more (evaluated net.kind list first slots (row s) i ring) i (omega arith) b.0 b.1

  pub held_next : (ring new : List ℕ) → Held net lab s ring → new ≡ evaluated net.kind list first slots (row s) (length list) ring → Held net lab (s + 1) new
  held_next ring new held q = held_on net lab m s new r.0 1 (λ v t h a b c. go v t h c (let y : s ≡ t = omega arith in y))
    where
      r : Held net lab s new × Done (length list) new
      r = subst (λ x. Held net lab s x × Done (length list) x) (sym q) (held_all ring held (length list) (omega arith))

      go : (v t : ℕ) → v < net.nodes → AskedAt lab t v → s ≡ t → at new (row t + v) ≡ quietly net v t
      go v t h a z =
          let b = subst (λ x. AskedAt lab x v) (sym z) a in
          let p = w.every v h b in
          subst (λ x. at new (row x + v) ≡ quietly net v x) z
          (subst (λ u. at new (row s + u) ≡ quietly net u s) p.holds (r.1 p.place p.within (subst (AskedAt lab s) (sym p.holds) b)))

-- 32 clocks of a node in a row.
--   held_block          the ring after those of all nodes of a list
-- On paper: what a node sees in clock s + j is of a clock before s, at most 32 clocks back, so it is in the ring; or it is of a clock from s on, over fewer than
-- 32 registers. Then its source is asked for too, stands in the list, and before the node, as each edge leads on: it has its 32 values.
-- Where a node should stand in the list more than once, its last place is the one that counts.
use Prim.Native.Nat.{ℕ, zero, suc, ◌+◌, ◌-◌, ◌*◌, ◌%◌, ◌<◌, ◌≤◌}
use native.Mathlib.Omega.{arith}
use native.Mathlib.Decide.{ℕ_discrete, dec_lt}
use mathlib.Core.Path.{◌≡◌, refl, sym, ap, ◌∙◌, subst}
use mathlib.Core.List.{List, map}
use lib.ListN.{length, set, take, length-map}
use Rattle.std.proofs.lemmas.List.{take-map, drop-map}
use lib.Seq.{get_or-set_same, get_or-set_other}
use Rattle.theory.specs.Clock.{seen}
use Rattle.theory.specs.Gate.{gate}
use Rattle.theory.proofs.clocks.Gate.{gate_bit}
use Rattle.std.specs.Prelude.{Option, Some, None}
use Rattle.graph.specs.Columns.{at}
use Rattle.graph.specs.inner.Sort.{Stands, place_in}
use Rattle.graph.proofs.Parts.{map_at}
use Rattle.gates.specs.inner.Gates.{part}
use Rattle.netlist.specs.declared.Netlist.{Netlist}
use Rattle.netlist.specs.Net.{graph_of, regs_of}
use Rattle.netlist.proofs.Lowest.{count_low}
use Rattle.simulate.specs.inner.Ran.{Steppable}
use Rattle.moves.specs.inner.Labels.{Labelled}
use Rattle.moves.proofs.Labels.{from_node, low_nodes}
use Rattle.starts.specs.inner.Ring.{row, quietly, AskedAt, edge_slot, Slots, SlotsOf, EdgeRows}
use Rattle.starts.specs.inner.Ahead.{turned, ahead, all_ahead, Leading}
use Rattle.simulate.proofs.Seen.{Entering}
use Rattle.starts.proofs.Listed.{Listed}
use Rattle.starts.proofs.Held.{asked_source, shows, Held, held_put, held_on, node_right, apart}
use Rattle.starts.proofs.Turned.{turned_edge, row_ahead}

module _ (net : Netlist) (lab : List ℕ) (ok : Steppable net) (m : Labelled net lab) (ins first : List ℕ) (en : Entering net ins first) (s : ℕ) (late : 32 ≤ s) (even : s % 32 ≡ 0)
    (list : List ℕ) (w : Listed net lab s list) (near : (i : ℕ) → i < length list → s + at lab (at list i) < 16384) (p : Leading net list)
    (slots : List ℕ) (rows : net.edges ≤ length ins) (size : net.edges ≤ length slots) (right : SlotsOf list (length list) first ins net s slots)
    (edge_rows : (e : ℕ) → e < net.edges → EdgeRows net e) where
  -- The last place of a node in the list.
  abbrev last : ℕ → Option ℕ
  last v = place_in p.place v

  has_last : (v : ℕ) → Stands list (length list) v → (q : ℕ) × (last v ≡ Some q)
  has_last v x = go (last v) refl
    where
      go : (o : Option ℕ) → last v ≡ o → (q : ℕ) × (last v ≡ Some q)
      go None e = absurd (p.places.found x.place x.within (ap last x.holds ∙ e))
      go (Some q) e = (q, e)

  -- The nodes whose last place is one of the first i have their 32 values.
  abbrev Passed : ℕ → List ℕ → Type 0
  Passed i ring = (v q j : ℕ) → v < net.nodes → last v ≡ Some q → q < i → j < 32 → AskedAt lab (s + j) v → at ring (row (s + j) + v) ≡ quietly net v (s + j)

  edge_right : (ring : List ℕ) (i e j : ℕ) → Held net lab s ring → Passed i ring → e < net.edges → last (at net.to e) ≡ Some i → j < 32 → AskedAt lab (s + j) (at net.to e)
      → at ring (edge_slot net (s + j) e) ≡ seen (graph_of net) (regs_of net) (quietly net) e (s + j)
  edge_right ring i e j held passed l q h a =
      shows net ring held.zeroth held.one (s + j) e (λ t r. go t r (asked_source net lab m e (s + j) t l a r) (dec_lt t s))
    where
      u : ℕ
      u = at net.from e

      go : (t : ℕ) → at net.count e + t ≡ s + j → AskedAt lab t u → Dec (t < s) → at ring (row t + u) ≡ quietly net u t
      go t r b (yes z) = held.past u t (from_node net lab m e l) z b (omega (arith, count_low net ok.fit e l))
      go t r b (no z) =
          let x = w.every u (from_node net lab m e l) (omega arith) in
          let y : s + (t - s) ≡ t = omega arith in
          let k = has_last u x in
          subst (λ c. at ring (row c + u) ≡ quietly net u c) y
          (passed u k.0 (t - s) (from_node net lab m e l) k.1 (p.leads e l k.0 i k.1 q (omega arith)) (omega arith) (subst (λ c. AskedAt lab c u) (sym y) b))

  module _ (i : ℕ) (h : i < length list) where
    abbrev v : ℕ
    v = at list i

    low : v < 512
    low = omega (arith, w.nodes_only i h, low_nodes net lab m)

    -- The slots of clock s + j.
    later : (j : ℕ) → Slots ins net (s + j) (at first v) (at first (suc v)) (map (turned j) slots)
    later j k a b =
        let l = en.within v (w.nodes_only i h) in
        map_at (turned j) slots k (omega arith) ∙ ap (turned j) (right i h k a b)
        ∙ turned_edge net (at ins k) s (edge_rows (at ins k) (en.edge k (omega arith))) late j

    -- What it sees then.
    abbrev sees : List ℕ
    sees = part slots (at first v) (at first (suc v))

    abbrev saw : ℕ → List ℕ → List ℕ
    saw j ring = map (at ring) (map (turned j) sees)

    abbrev after : ℕ → List ℕ → List ℕ
    after j ring = ahead (at net.kind v) sees (row s + v) j ring

    -- Its first j values are there, if this is its last place.
    abbrev Begun : ℕ → List ℕ → Type 0
    Begun j ring = (k : ℕ) → k < j → last v ≡ Some i → AskedAt lab (s + k) v → at ring (row (s + k) + v) ≡ quietly net v (s + k)

    one_more : (ring : List ℕ) (j : ℕ) → j < 32 → Held net lab s ring → Passed i ring → Begun j ring
        → let new = set ring (row (s + j) + v) (gate (at net.kind v) (saw j ring)) in Held net lab s new × Passed i new × Begun (suc j) new
    one_more ring j l held passed begun = (
      held_put net lab m s ring held (s + j) v x (omega arith) (omega arith) low (omega (arith, near i h)) (gate_bit (at net.kind v) (saw j ring)),
      λ u y k o a b c d. get_or-set_other ring here (row (s + k) + u) x 0 (beside u y k o a b) ∙ passed u y k o a b c d,
      λ k a q b. go k a q b (ℕ_discrete k j),
    )
      where
        here : ℕ
        here = row (s + j) + v

        x : ℕ
        x = gate (at net.kind v) (saw j ring)

        beside : (u y k : ℕ) → u < net.nodes → last u ≡ Some y → y < i → ¬ (row (s + k) + u ≡ here)
        beside u y k o a b q =
            let z = (apart (s + k) (s + j) u v (omega (arith, low_nodes net lab m)) low q).1 in
            omega (arith, p.places.last i y h (ap last (sym z) ∙ a))

        go : (k : ℕ) → k < suc j → last v ≡ Some i → AskedAt lab (s + k) v → Dec (k ≡ j) → at (set ring here x) (row (s + k) + v) ≡ quietly net v (s + k)
        go k a q b (yes z) =
            subst (λ t. at (set ring here x) (row (s + t) + v) ≡ quietly net v (s + t)) (sym z)
            (get_or-set_same ring here x 0 (let y : here < length ring = omega (arith, low, held.size) in y)
            ∙ ap (λ l. gate (at net.kind v) (map (at ring) l)) (sym (take-map (turned j) _ _) ∙ ap (take (at first (suc v) - at first v)) (sym (drop-map (turned j) (at first v) slots)))
            ∙ node_right net lab ok m ins first en (map (turned j) slots) ring rows (let y = length-map slots (turned j) in omega arith) (s + j) v (w.nodes_only i h) (omega arith) (later j)
            (λ e k r. edge_right ring i e j held passed k (ap last r ∙ q) l (omega (arith, ap (at lab) r))))
        go k a q b (no z) = get_or-set_other ring here (row (s + k) + v) x 0 (let y : ¬ (row (s + k) + v ≡ here) = λ r. omega (arith, row_ahead s k even (omega arith), row_ahead s j even l) in y) ∙ begun k (omega arith) q b

    gate_more : (ring : List ℕ) → Held net lab s ring → Passed i ring → (j : ℕ) → j ≤ 32 → Held net lab s (after j ring) × Passed i (after j ring) × Begun j (after j ring)
    unfolding ahead
    gate_more ring held passed zero l = (held, passed, λ k a. absurd (let z : ⊥ = omega arith in z))
    gate_more ring held passed (suc j) l =
        let b = gate_more ring held passed j (omega arith) in
        let z : row (s + j) + v ≡ row s + v + j * 512 = omega (arith, row_ahead s j even (omega arith)) in
        let x = gate (at net.kind v) (saw j (after j ring)) in
        subst (λ c. Held net lab s (set (after j ring) c x) × Passed i (set (after j ring) c x) × Begun (suc j) (set (after j ring) c x)) z
        (one_more (after j ring) j (omega arith) b.0 b.1 b.2)

  abbrev block : ℕ → List ℕ → List ℕ
  block i ring = all_ahead net.kind list first slots (row s) i ring

  block_all : (ring : List ℕ) → Held net lab s ring → (i : ℕ) → i ≤ length list → Held net lab s (block i ring) × Passed i (block i ring)
  unfolding all_ahead
  block_all ring held zero h = (held, λ v q j o a b. absurd (let z : ⊥ = omega arith in z))
  block_all ring held (suc i) h =
      let b = block_all ring held i (omega arith) in
      let r = gate_more i (omega arith) (block i ring) b.0 b.1 32 (omega arith) in
      (r.0, λ u q j o a l c d. go u q j o a l c d r.1 r.2 (ℕ_discrete q i))
    where
      go : (u q j : ℕ) → u < net.nodes → last u ≡ Some q → q < suc i → j < 32 → AskedAt lab (s + j) u → Passed i (block (suc i) ring) → Begun i (omega arith) 32 (block (suc i) ring)
          → Dec (q ≡ i) → at (block (suc i) ring) (row (s + j) + u) ≡ quietly net u (s + j)
      go u q j o a l c d passed begun (no z) = passed u q j o a (omega arith) c d
      go u q j o a l c d passed begun (yes z) =
          let e : last u ≡ Some i = a ∙ ap Some z in
          let k = (p.places.holds u i e).1 in
          subst (λ x. at (block (suc i) ring) (row (s + j) + x) ≡ quietly net x (s + j)) k (begun j c (ap last k ∙ e) (subst (AskedAt lab (s + j)) (sym k) d))

  pub held_block : (ring new : List ℕ) → Held net lab s ring → new ≡ all_ahead net.kind list first slots (row s) (length list) ring → Held net lab (s + 32) new
  held_block ring new held q = held_on net lab m s new r.0 32 go
    where
      r : Held net lab s new × Passed (length list) new
      r = subst (λ x. Held net lab s x × Passed (length list) x) (sym q) (block_all ring held (length list) (omega arith))

      go : (v t : ℕ) → v < net.nodes → s ≤ t → t < s + 32 → AskedAt lab t v → at new (row t + v) ≡ quietly net v t
      go v t h a b c =
          let x = w.every v h (omega arith) in
          let y : s + (t - s) ≡ t = omega arith in
          let k = has_last v x in
          subst (λ i. at new (row i + v) ≡ quietly net v i) y
          (r.1 v k.0 (t - s) h k.1 (p.places.holds v k.0 k.1).0 (omega arith) (subst (λ i. AskedAt lab i v) (sym y) c))

-- Arrival times in one pass along an order under the labels.
--   product_small       a delay times a derate
--   latest_kept, latest_later                    an edge that is not empty; one that is
--   basis_readable      a node's edges can be read
--   Times               arrival times under the labels: there are some, and only one for each node
--   Timing              what holds before place i of the order: each node there has its arrival time
--   time_low            what its edges give the next node is at most the period and one
--   time_next           the next node has its arrival time too
--   time_end            after the last node
use Prim.Native.Nat.{ℕ, suc, ◌+◌, ◌*◌, min, max, ◌≤◌, ◌<◌}
use native.Mathlib.Omega.{arith}
use native.Mathlib.Nat.{mul-le-mul}
use native.Mathlib.Decide.{ℕ_discrete, dec_lt}
use mathlib.Core.Path.{◌≡◌, refl, sym, subst, ap, ◌∙◌}
use mathlib.Core.List.{List}
use mathlib.Core.Logic.{◌⊎◌, inl, inr, ⊎_elim}
use lib.ListN.{length, set, length-set}
use lib.Seq.{get_or-set_same, get_or-set_other}
use borrow.Author.Count.{below_more}
use Rattle.theory.specs.Graph.{Graph, Wired}
use Rattle.theory.specs.Walk.{Walk, one, more, delays}
use Rattle.theory.specs.inner.Labels.{Empty, Chain}
use Rattle.theory.specs.inner.Arrival.{Arrival}
use Rattle.theory.proofs.walks.Walks.{walk_end}
use Rattle.theory.proofs.least.Times.{arrival_times}
use Rattle.graph.specs.Columns.{at}
use Rattle.netlist.specs.declared.Netlist.{Netlist}
use Rattle.netlist.specs.Net.{graph_of, delay_of}
use Rattle.netlist.proofs.Run.{fit_rows, fit_wired}
use Rattle.lags.specs.declared.Ground.{Ground}
use Rattle.lags.specs.inner.Wires.{Basis, Entering}
use Rattle.lags.specs.inner.Rounds.{EmptyUnder, LabelOrder, Readable, LatestTime, Arrived}

pub product_small : (a b : ℕ) → a < 256 → b < 256 → a * b ≤ 65025
product_small a b h k = mul-le-mul {n₁ = a} {m₁ = b} {n₂ = 255} {m₂ = 255} (omega arith) (omega arith)

-- ── The edges of one node ───────────────────────────────────────────────────────────────────

module _ (net : Netlist) (ins lab time : List ℕ) (here : ℕ) where
  module _ (k best : ℕ) (t : LatestTime net ins lab time here k best) where
    pub latest_kept : (at lab (at net.from (at ins k)) ≡ at net.count (at ins k) + here → at time (at net.from (at ins k)) ≤ best)
        → LatestTime net ins lab time here (k + 1) best
    latest_kept q = record {
      above = below_more _ _ t.above q;
      cause = ⊎_elim inl (λ c. inr (c.0, omega (arith, c.1), c.2, c.3)) t.cause;
    }

    latest_raised : at lab (at net.from (at ins k)) ≡ at net.count (at ins k) + here → best < at time (at net.from (at ins k))
        → LatestTime net ins lab time here (k + 1) (at time (at net.from (at ins k)))
    latest_raised e q = record {
      above = below_more _ _ (λ j m z. omega (arith, t.above j m z)) (λ _. omega arith);
      cause = inr (k, omega arith, e, refl);
    }

    -- The later of the two, where the edge is empty.
    pub latest_later : at lab (at net.from (at ins k)) ≡ at net.count (at ins k) + here → LatestTime net ins lab time here (k + 1) (max (at time (at net.from (at ins k))) best)
    latest_later e = go (dec_lt best (at time (at net.from (at ins k))))
      where
        go : Dec (best < at time (at net.from (at ins k))) → LatestTime net ins lab time here (k + 1) (max (at time (at net.from (at ins k))) best)
        go (yes q) = subst (LatestTime net ins lab time here (k + 1)) (omega arith) (latest_raised e q)
        go (no q) = subst (LatestTime net ins lab time here (k + 1)) (omega arith) (latest_kept (λ _. omega arith))

-- ── What arrival times are ──────────────────────────────────────────────────────────────────

module _ {G : Graph} (count delay : ℕ → ℕ) (P : ℕ) (lab a : ℕ → ℕ) (w : Arrival G count delay P lab a) where
  arrival_own : (v : ℕ) → v < G.nodes → min (suc P) (delay v) ≤ a v
  unfolding Chain delays
  arrival_own v h = w.within v v (one h) tt

  arrival_edge : Wired G → (e : ℕ) → e < G.edges → Empty G count lab e → min (suc P) (a (G.src e) + delay (G.dst e)) ≤ a (G.dst e)
  unfolding Chain delays
  arrival_edge i e h q =
      let r = w.reached (G.src e) (i.src_in e h) in
      omega (arith, r.enough, w.within r.from (G.dst e) (more e h r.walk) (q, r.chain))

  -- A chain is one node, or ends with an edge from a node that has its time already.
  arrival_cause : {u v : ℕ} (p : Walk G u v) → Chain count lab p
      → (delays delay p ≡ delay v) ⊎ ((e : ℕ) × (e < G.edges) × (G.dst e ≡ v) × Empty G count lab e × (min (suc P) (delays delay p) ≤ a (G.src e) + delay v))
  unfolding Chain delays
  arrival_cause (one h) c = inl refl
  arrival_cause {u} (more e h p) c = inr (e, h, refl, c.0, omega (arith, w.within u (G.src e) p c.1))

  arrival_alike : Wired G → (b : ℕ → ℕ) → ((v : ℕ) → v < G.nodes → b v ≡ a v) → Arrival G count delay P lab b
  arrival_alike i b q = record {
    within = λ u v p c. omega (arith, w.within u v p c, q v (walk_end i p));
    reached = λ v h.
        let r = w.reached v h in
        record { from = r.from; walk = r.walk; chain = r.chain; enough = omega (arith, r.enough, q v h) };
  }

-- ── The pass ────────────────────────────────────────────────────────────────────────────────

abbrev pub Times : Netlist → ℕ → List ℕ → (ℕ → ℕ) → Type 0
Times net P lab a = Arrival (graph_of net) (at net.count) (delay_of net) P (at lab) a

pub record Timing (net : Netlist) (P : ℕ) (lab order time : List ℕ) (i : ℕ) : Type 0 where
  pub size : length time ≡ 512
  pub exact : (a : ℕ → ℕ) → Times net P lab a → (p : ℕ) → p < i → at time (at order p) ≡ a (at order p)

module _ {net : Netlist} {g : Ground} {P : ℕ} (b : Basis net g P) where
  wired : Wired (graph_of net)
  wired = fit_wired net b.sure.fit

  pub basis_readable : {v : ℕ} {ins : List ℕ} → Entering net v ins → Readable net ins
  basis_readable {v} {ins} x k h = omega (arith, x.edge k h, wired.src_in (at ins k) (x.edge k h), fit_rows net b.sure.fit)

  module _ {lab order time : List ℕ} {i : ℕ} (o : LabelOrder net lab order) (t : Timing net P lab order time i) where
    pub time_end : net.nodes ≤ i → Arrived net P lab time
    time_end h =
        let s = arrival_times wired (at net.count) (delay_of net) P (at lab) in
        arrival_alike (at net.count) (delay_of net) P (at lab) s.0 s.1 wired (at time)
        (λ v m. let p = o.listed.every v m in
        subst (λ x. at time x ≡ s.0 x) p.holds (t.exact s.0 s.1 p.place (omega (arith, p.within))))

    module _ (h : i < net.nodes) {ins : List ℕ} (x : Entering net (at order i) ins) (best : ℕ)
        (l : LatestTime net ins lab time (at lab (at order i)) (length ins) best) where
      abbrev v : ℕ
      v = at order i

      node : v < net.nodes
      node = o.listed.node i h

      module _ (a : ℕ → ℕ) (w : Times net P lab a) where
        source_time : (e : ℕ) → e < net.edges → at net.to e ≡ v → EmptyUnder net lab e → at time (at net.from e) ≡ a (at net.from e)
        source_time e m q z =
            let s = o.sources_first i e h m q z in
            subst (λ x. at time x ≡ a x) s.holds (t.exact a w s.place s.within)

        -- The edge that the latest time comes by, where there is one.
        best_edge : (best ≡ 0) ⊎ ((e : ℕ) × (e < net.edges) × (at net.to e ≡ v) × EmptyUnder net lab e × (best ≡ a (at net.from e)))
        best_edge = ⊎_elim inl (λ c. inr (go c.0 c.1 c.2 c.3)) l.cause
          where
            go : (k : ℕ) → k < length ins → at lab (at net.from (at ins k)) ≡ at net.count (at ins k) + at lab v → at time (at net.from (at ins k)) ≡ best
                → (e : ℕ) × (e < net.edges) × (at net.to e ≡ v) × EmptyUnder net lab e × (best ≡ a (at net.from e))
            go k y z q =
                let m = x.edge k y in
                let to = x.ends k y in
                let empty : EmptyUnder net lab (at ins k) = omega (arith, ap (at lab) to) in
                (at ins k, m, to, empty, sym q ∙ source_time (at ins k) m to empty)

        time_above : min (suc P) (best + delay_of net v) ≤ a v
        time_above =
            ⊎_elim
            (λ z. omega (arith, arrival_own (at net.count) (delay_of net) P (at lab) a w v node))
            (λ c.
            omega (arith, c.4, ap a c.2, ap (delay_of net) c.2, arrival_edge (at net.count) (delay_of net) P (at lab) a w wired c.0 c.1 c.3))
            best_edge

        time_below : a v ≤ min (suc P) (best + delay_of net v)
        time_below =
            let r = w.reached v node in
            ⊎_elim
            (λ z. omega (arith, r.enough))
            (λ c. omega (arith, r.enough, c.4, late c.0 c.1 c.2 c.3))
            (arrival_cause (at net.count) (delay_of net) P (at lab) a w r.walk r.chain)
          where
            late : (e : ℕ) → e < net.edges → at net.to e ≡ v → EmptyUnder net lab e → a (at net.from e) ≤ best
            late e m q z =
                let k = x.every e m q in
                let f : at time (at net.from e) ≤ best =
                subst (λ d. at lab (at net.from d) ≡ at net.count d + at lab v → at time (at net.from d) ≤ best) k.holds (l.above k.place k.within) (omega (arith, ap (at lab) q)) in
                omega (arith, source_time e m q z)

      pub time_low : best ≤ suc P
      time_low =
          let s = arrival_times wired (at net.count) (delay_of net) P (at lab) in
          ⊎_elim
          (λ z. omega arith)
          (λ c. omega (arith, c.4, (s.1.reached (at net.from c.0) (wired.src_in c.0 c.1)).enough))
          (best_edge s.0 s.1)

      pub time_next : (t' : ℕ) → t' ≡ min (suc P) (best + at g.delay v) → Timing net P lab order (set time v t') (i + 1)
      time_next t' q = record {
        size = length-set time v t' ∙ t.size;
        exact = λ a w p m. go a w p m (ℕ_discrete (at order p) v);
      }
        where
          before : (p : ℕ) → p < i + 1 → ¬ (at order p ≡ v) → Dec (p ≡ i) → p < i
          before p m z (yes e) = absurd (z (ap (at order) e))
          before p m z (no e) = omega arith

          go : (a : ℕ → ℕ) → Times net P lab a → (p : ℕ) → p < i + 1 → Dec (at order p ≡ v) → at (set time v t') (at order p) ≡ a (at order p)
          go a w p m (yes z) =
              subst (λ y. at (set time v t') y ≡ a y) (sym z)
              (get_or-set_same time v t' 0 (omega (arith, node, t.size, (fit_rows net b.sure.fit).0)) ∙ omega (arith, b.ground.delayed.exact v node, time_above a w, time_below a w))
          go a w p m (no z) =
              get_or-set_other time v (at order p) t' 0 z ∙ t.exact a w p (before p m z (ℕ_discrete p i))

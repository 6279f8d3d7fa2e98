-- Climbing: labels and arrival times together, from below. A node takes the highest label that an edge into it asks for, that of the edge's start less its registers,
-- and with it the latest time; its own delay comes on top, and past the period it takes one label more and begins anew.
--   under_earlier       not above: nor is an earlier time
--   under_alone         a node alone, at a label that r has
--   under_edge          what an edge asks for, from what its start has
--   under_next          past the period: one label more
--   climb_least         labels that fit, and times that no empty edge raises: the least labelling
--   climb_pin           a pin above its label: there is none
--   slow_node           a delay above the period: there is none
-- No law here asks that a delay is above 0.
use Prim.Native.Nat.{ℕ, suc, ◌+◌, min, ◌≤◌, ◌<◌}
use native.Mathlib.Omega.{arith}
use native.Mathlib.Decide.{dec_lt}
use mathlib.Core.Path.{◌≡◌}
use mathlib.Core.Logic.{inl, inr, ⊎_elim}
use Rattle.theory.specs.Graph.{Graph, Wired, Pin}
use Rattle.theory.specs.Walk.{one, delays}
use Rattle.theory.proofs.walks.Walks.{walk_end}
use Rattle.theory.specs.inner.Labels.{Chain, Fits, LegalLabels, MeetsLabels, LeastLabels}
use Rattle.theory.specs.inner.Arrival.{Own, Passed, Infeasible, Under, UnderAll}
use Rattle.theory.proofs.labels.Arrival.{reached_edge, settled}

module _ {G : Graph} (count delay : ℕ → ℕ) (P : ℕ) (r : ℕ → ℕ) where
  pub under_earlier : (v l t s : ℕ) → s ≤ t → Under G count delay P r v l t → Under G count delay P r v l s
  under_earlier v l t s h (inl u) = inl u
  under_earlier v l t s h (inr u) =
      inr (u.0, record { from = u.1.from; walk = u.1.walk; chain = u.1.chain; enough = omega (arith, u.1.enough) })

  pub under_alone : (v l t : ℕ) → v < G.nodes → l ≤ r v → t ≤ min (suc P) (delay v) → Under G count delay P r v l t
  unfolding Chain delays
  under_alone v l t h b w = go (dec_lt l (r v))
    where
      go : Dec (l < r v) → Under G count delay P r v l t
      go (yes s) = inl s
      go (no s) = inr (omega arith, record { from = v; walk = one h; chain = tt; enough = w })

  -- Where the label that is asked for is r's, the edge is empty under r, and the chain goes on.
  pub under_edge : Fits G count r → (e k l t : ℕ) → e < G.edges → k ≡ l + count e → Under G count delay P r (G.src e) k t
      → Under G count delay P r (G.dst e) l (min (suc P) (t + delay (G.dst e)))
  under_edge s e k l t h q (inl u) = inl (omega (arith, s e h))
  under_edge s e k l t h q (inr u) = go (dec_lt l (r (G.dst e)))
    where
      go : Dec (l < r (G.dst e)) → Under G count delay P r (G.dst e) l (min (suc P) (t + delay (G.dst e)))
      go (yes w) = inl w
      go (no w) = inr (omega (arith, s e h, u.0), reached_edge count delay P r e t h (omega (arith, s e h, u.0)) u.1)

  -- No chain under r is longer than the period, so the label that is asked for is lower than r's.
  pub under_next : MeetsLabels G count delay P r → (v l t : ℕ) → v < G.nodes → P < t + delay v → Under G count delay P r v l (min (suc P) (t + delay v))
      → Under G count delay P r v (suc l) (delay v)
  unfolding Chain delays
  under_next m v l t h w (inl u) = under_alone v (suc l) (delay v) h u (omega (arith, m.in_time v v (one h) tt))
  under_next m v l t h w (inr u) = absurd (let z : ⊥ = omega (arith, m.in_time u.1.from v u.1.walk u.1.chain, u.1.enough) in z)

module _ {G : Graph} (count delay : ℕ → ℕ) (B P : ℕ) where
  pub climb_least : Wired G → (lab time : ℕ → ℕ) → ((v : ℕ) → v < G.nodes → UnderAll G count delay B P v (lab v) (time v)) → LegalLabels G count B lab
      → Own G delay P time → Passed G count delay P lab time time → ((v : ℕ) → v < G.nodes → time v ≤ P) → LeastLabels G count delay B P lab
  climb_least i lab time c l o w n = record {
    legal = l;
    meets = record { in_time = λ u v p h. omega (arith, settled count delay P lab time o w p h, n v (walk_end i p)) };
    least = λ r k m v h. ⊎_elim (λ u. omega arith) (λ u. omega (arith, u.0)) (c v h r k m);
  }

  pub climb_pin : (v l t : ℕ) → v < G.nodes → Pin G v → B < l → UnderAll G count delay B P v l t → Infeasible G count delay B P
  climb_pin v l t h p a c r k m = ⊎_elim (λ u. omega (arith, k.pinned v h p)) (λ u. omega (arith, u.0, k.pinned v h p)) (c r k m)

  pub slow_node : (v : ℕ) → v < G.nodes → P < delay v → Infeasible G count delay B P
  unfolding Chain delays
  slow_node v h a r k m = omega (arith, m.in_time v v (one h) tt)

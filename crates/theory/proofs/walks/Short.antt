-- A walk can be made short: cut out what lies between two visits to a node.
--   Stops              the nodes of a walk, the last first, each with the walk up to it and the walk on from it
--   one_more, stops    those of a walk
--   shorter            a walk with as many edges as there are nodes, or more, has a shorter one between its ends
--   short_walk         between the ends of a walk there is one with fewer edges than there are nodes
--   few_registers      with m registers on an edge at most, a walk has m for each of its edges at most
use Prim.Native.Nat.{ℕ, zero, suc, ◌+◌, ◌*◌, ◌≤◌, ◌<◌}
use native.Mathlib.Omega.{arith}
use native.Mathlib.Decide.{dec_lt}
use mathlib.Core.Path.{◌≡◌, subst}
use Rattle.theory.specs.Graph.{Graph, Wired}
use Rattle.theory.specs.Walk.{Walk, one, more, registers, walk_steps}
use Rattle.theory.proofs.numbers.Pigeon.{pigeonhole, cons}
use Rattle.theory.proofs.walks.Walks.{join, join_steps}

-- A walk of n edges.
Long : Graph → ℕ → ℕ → ℕ → Type 0
Long G u v n = (p : Walk G u v) × (walk_steps p ≡ n)

record Stops (G : Graph) (u v n : ℕ) : Type 0 where
  at : ℕ → ℕ
  node : (i : ℕ) → i ≤ n → at i < G.nodes
  to : (i : ℕ) → i ≤ n → (m : ℕ) × Long G u (at i) m × (m + i ≡ n)
  rest : (i : ℕ) → i ≤ n → Long G (at i) v i

module _ {G : Graph} (w : Wired G) where
  one_more : {u : ℕ} (e : ℕ) → e < G.edges → (p : Walk G u (G.src e)) → Stops G u (G.src e) (walk_steps p) → Stops G u (G.dst e) (suc (walk_steps p))
  unfolding walk_steps Long
  one_more {u} e h p s = record { at = at; node = node; to = to; rest = rest }
    where
      at : ℕ → ℕ
      at = cons (G.dst e) s.at

      node : (i : ℕ) → i ≤ suc (walk_steps p) → at i < G.nodes
      node zero l = w.dst_in e h
      node (suc i) l = s.node i (omega arith)

      to : (i : ℕ) → i ≤ suc (walk_steps p) → (m : ℕ) × Long G u (at i) m × (m + i ≡ suc (walk_steps p))
      to zero l = (suc (walk_steps p), (more e h p, omega arith), omega arith)
      to (suc i) l = let t = s.to i (omega arith) in (t.0, t.1, omega (arith, t.2))

      rest : (i : ℕ) → i ≤ suc (walk_steps p) → Long G (at i) (G.dst e) i
      rest zero l = (one (w.dst_in e h), omega arith)
      rest (suc i) l = let t = s.rest i (omega arith) in (more e h t.0, omega (arith, t.1))

  stops : {u v : ℕ} (p : Walk G u v) → Stops G u v (walk_steps p)
  unfolding walk_steps Long
  stops {u} (one h) = record {
    at = λ i. u;
    node = λ i l. h;
    to = λ i l. (0, (one h, omega arith), omega arith);
    rest = λ i l. (one h, omega arith);
  }
  stops (more e h p) = one_more e h p (stops p)

  -- Two of its nodes are one, x. The walk up to x where it comes first, and on from x where it comes last, leaves out the edges between.
  shorter : {u v : ℕ} (p : Walk G u v) → G.nodes ≤ walk_steps p → (q : Walk G u v) × (walk_steps q < walk_steps p)
  unfolding Long
  shorter {u} {v} p l = go (stops p) l
    where
      go : {n : ℕ} → Stops G u v n → G.nodes ≤ n → (q : Walk G u v) × (walk_steps q < n)
      go s l =
          let t = pigeonhole G.nodes s.at (λ i k. s.node i (omega arith)) in
          let a = s.to t.j (omega (arith, t.within)) in
          let b = s.rest t.i (omega (arith, t.before, t.within)) in
          let c = subst (λ x. Long G x v t.i) t.same b in
          (join a.1.0 c.0, omega (arith, join_steps a.1.0 c.0, a.1.1, a.2, c.1, t.before))

  -- So by the number of edges.
  cut : (n : ℕ) {u v : ℕ} (p : Walk G u v) → walk_steps p < n → (q : Walk G u v) × (walk_steps q < G.nodes)
  cut zero p l = absurd (let z : ⊥ = omega arith in z)
  cut (suc n) {u} {v} p l = go (λ q. cut n q) (dec_lt (walk_steps p) G.nodes)
    where
      go : ((q : Walk G u v) → walk_steps q < n → (q : Walk G u v) × (walk_steps q < G.nodes)) → Dec (walk_steps p < G.nodes) → (q : Walk G u v) × (walk_steps q < G.nodes)
      go again (yes h) = (p, h)
      go again (no h) = let s = shorter p (omega arith) in again s.0 (omega (arith, s.1))

  pub short_walk : {u v : ℕ} → Walk G u v → (q : Walk G u v) × (walk_steps q < G.nodes)
  short_walk p = cut (suc (walk_steps p)) p (omega arith)

pub few_registers : {G : Graph} (count : ℕ → ℕ) (m : ℕ) → ((e : ℕ) → e < G.edges → count e ≤ m) → {u v : ℕ} (p : Walk G u v) → registers count p ≤ walk_steps p * m
unfolding registers walk_steps
few_registers count m b (one h) = omega arith
few_registers count m b (more e h p) = omega (arith, few_registers count m b p, b e h)

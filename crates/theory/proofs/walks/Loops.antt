-- Loops without a register: how to see that there is none, and that a long walk without a register holds one.
use Prim.Native.Nat.{ℕ, zero, suc, ◌+◌, ◌≤◌, ◌<◌}
use native.Mathlib.Omega.{arith}
use native.Mathlib.Decide.{dec_lt}
use mathlib.Core.Path.{◌≡◌, refl, sym, subst}
use Rattle.theory.specs.Graph.{Graph, Wired}
use Rattle.theory.specs.Walk.{Walk, one, more, registers, walk_steps, Loop}
use Rattle.theory.proofs.numbers.Pigeon.{pigeonhole, cons}
use Rattle.theory.proofs.walks.Walks.{join, join_registers, join_steps}

-- A walk with no registers and n edges.
pub record Bare (G : Graph) (count : ℕ → ℕ) (u v n : ℕ) : Type 0 where
  pub walk : Walk G u v
  pub bare : registers count walk ≡ 0
  pub long : walk_steps walk ≡ n

pub bare_one : (G : Graph) (count : ℕ → ℕ) (v : ℕ) → v < G.nodes → Bare G count v v 0
unfolding registers walk_steps
bare_one G count v h = record { walk = one h; bare = omega arith; long = omega arith }

-- One more edge at its start.
pub bare_more : {G : Graph} {count : ℕ → ℕ} → Wired G → (e v z n : ℕ) → e < G.edges → G.dst e ≡ v → count e ≡ 0 → Bare G count v z n → Bare G count (G.src e) z (suc n)
unfolding registers walk_steps
bare_more {G} {count} i e v z n h d q b =
    let c : Bare G count (G.dst e) z n = subst (λ x. Bare G count x z n) (sym d) b in
    let p : Walk G (G.src e) (G.dst e) = more e h (one (i.src_in e h)) in
    record {
      walk = join p c.walk;
      bare = omega (arith, join_registers count p c.walk, c.bare);
      long = omega (arith, join_steps p c.walk, c.long);
    }

-- One whose ends are the same node is a loop.
closed : {G : Graph} {count : ℕ → ℕ} {u v n : ℕ} → Bare G count u v n → u ≡ v → 0 < n → Loop G count
closed {G} {count} {u} {v} {n} w q m =
    let c : Bare G count v v n = subst (λ x. Bare G count x v n) q w in
    record { node = v; walk = c.walk; moves = omega (arith, c.long); bare = c.bare }

-- Where the nodes can be numbered so that each edge without registers goes up, there is none.
module _ {G : Graph} {count : ℕ → ℕ} (rank : ℕ → ℕ) (up : (e : ℕ) → e < G.edges → count e ≡ 0 → rank (G.src e) < rank (G.dst e)) where
  rank_sum : {u v : ℕ} (p : Walk G u v) → registers count p ≡ 0 → rank u + walk_steps p ≤ rank v
  unfolding registers walk_steps
  rank_sum (one h) q = omega arith
  rank_sum (more e h p) q = omega (arith, rank_sum p (omega arith), up e h (omega arith))

  pub rank_no_loop : ¬ Loop G count
  rank_no_loop l = omega (arith, rank_sum l.walk l.bare, l.moves)

-- The nodes of a walk without a register that ends in v, the last first, each with the rest of the walk from there; and between any two of them
-- a walk with an edge.
record Visits (G : Graph) (count : ℕ → ℕ) (v n : ℕ) : Type 0 where
  at : ℕ → ℕ
  node : (i : ℕ) → i ≤ n → at i < G.nodes
  rest : (i : ℕ) → i ≤ n → (p : Walk G (at i) v) × (registers count p ≡ 0)
  between : (i j : ℕ) → i < j → j ≤ n → (m : ℕ) × Bare G count (at j) (at i) (suc m)

-- A walk without a register that has as many edges as there are nodes, or more, visits some node twice: there is a loop without a register.
module _ {G : Graph} (i : Wired G) (count : ℕ → ℕ) where
  visit_more : {n : ℕ} (e : ℕ) → e < G.edges → count e ≡ 0 → Visits G count (G.src e) n → Visits G count (G.dst e) (suc n)
  unfolding registers walk_steps
  visit_more {n} e h q w = record { at = at; node = node; rest = rest; between = between }
    where
      at : ℕ → ℕ
      at = cons (G.dst e) w.at

      node : (j : ℕ) → j ≤ suc n → at j < G.nodes
      node zero l = i.dst_in e h
      node (suc j) l = w.node j (omega arith)

      rest : (j : ℕ) → j ≤ suc n → (p : Walk G (at j) (G.dst e)) × (registers count p ≡ 0)
      rest zero l = (one (i.dst_in e h), omega arith)
      rest (suc j) l = let r = w.rest j (omega arith) in (more e h r.0, omega (arith, r.1))

      between : (j k : ℕ) → j < k → k ≤ suc n → (m : ℕ) × Bare G count (at k) (at j) (suc m)
      between j zero m l = absurd (let z : ⊥ = omega arith in z)
      between zero (suc k) m l =
          let r = w.rest k (omega arith) in
          (walk_steps r.0, record { walk = more e h r.0; bare = omega (arith, r.1); long = refl })
      between (suc j) (suc k) m l = w.between j k (omega arith) (omega arith)

  visits : {u v : ℕ} (p : Walk G u v) → registers count p ≡ 0 → Visits G count v (walk_steps p)
  unfolding registers walk_steps
  visits {u} (one h) c = record {
    at = λ j. u;
    node = λ j l. h;
    rest = λ j l. (one h, omega arith);
    between = λ j k m l. absurd (let z : ⊥ = omega arith in z);
  }
  visits (more e h p) c = visit_more e h (omega arith) (visits p (omega arith))

  pub long_loop : {u v : ℕ} (p : Walk G u v) → registers count p ≡ 0 → G.nodes ≤ walk_steps p → Loop G count
  long_loop p c l = go (visits p c) l
    where
      go : {v n : ℕ} → Visits G count v n → G.nodes ≤ n → Loop G count
      go w l =
          let t = pigeonhole G.nodes w.at (λ j k. w.node j (omega arith)) in
          closed (w.between t.i t.j t.before (omega (arith, t.within))).1 (sym t.same) (omega arith)

  -- So where there is no such loop, every such walk has fewer edges than there are nodes.
  pub bare_short : ¬ Loop G count → {u v : ℕ} (p : Walk G u v) → registers count p ≡ 0 → walk_steps p < G.nodes
  bare_short none p c = go (dec_lt (walk_steps p) G.nodes)
    where
      go : Dec (walk_steps p < G.nodes) → walk_steps p < G.nodes
      go (yes h) = h
      go (no h) = absurd (none (long_loop p c (omega arith)))

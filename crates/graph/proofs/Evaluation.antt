-- The evaluation order, all of whose nodes are taken: it has all nodes, or there is a loop without a register.
--   stuck_loop          nodes each of which another of them feeds without a register: a loop without a register
--   ordered_no_loop     an order of all nodes: no such loop
--   going_found         all of the order is taken: it has all nodes, or there is a loop
--   found_told          whether it has all nodes tells whether there is a loop
--   found_ordered       without a loop it has all nodes
use Prim.Native.Nat.{ℕ, zero, suc, ◌+◌, ◌≤◌, ◌<◌}
use native.Mathlib.Omega.{arith}
use native.Mathlib.Decide.{dec_lt}
use mathlib.Core.Path.{◌≡◌, sym, ◌∙◌}
use mathlib.Core.List.{List, []}
use mathlib.Core.Bool.{true, false}
use mathlib.Core.Logic.{◌⊎◌, inl, inr}
use Rattle.std.proofs.lemmas.Bool.{true≢false, cases_Bool}
use borrow.Author.Tests.{lt-ltb, le-ltb}
use lib.Dec.{ltb}
use Rattle.theory.specs.Graph.{Graph, Wired}
use Rattle.theory.specs.Walk.{Walk, one, more, registers, walk_steps, Loop}
use Rattle.theory.proofs.walks.Walks.{walk_start}
use Rattle.theory.proofs.walks.Loops.{Bare, bare_one, bare_more, long_loop}
use Rattle.graph.specs.declared.wires.Wires.{Wires}
use Rattle.graph.specs.declared.both_ways.BothWays.{BothWays}
use Rattle.graph.specs.declared.order.Placing.{Placing}
use Rattle.graph.specs.Columns.{at, flag, column_graph}
use Rattle.graph.specs.Wires.{wires_graph}
use Rattle.graph.specs.Layers.{Told}
use Rattle.graph.specs.inner.Sort.{Ordered}
use Rattle.graph.specs.inner.Order.{Going, Found}
use Rattle.graph.proofs.Answers.{laid_wired}
use Rattle.graph.proofs.Once.{once_whole, left_out}
use Rattle.graph.proofs.Stage.{stage_few}

-- ── Loops ───────────────────────────────────────────────────────────────────────────────────

-- From one of them back to one that feeds it, as many times as there are nodes.
module _ {G : Graph} {count : ℕ → ℕ} (w : Wired G) (P : ℕ → Type 0)
    (fed : (v : ℕ) → v < G.nodes → P v → (e : ℕ) × (e < G.edges) × (G.dst e ≡ v) × (count e ≡ 0) × P (G.src e)) where
  walk_back : (z : ℕ) → z < G.nodes → P z → (n : ℕ) → (u : ℕ) × (u < G.nodes) × P u × Bare G count u z n
  walk_back z h p zero = (z, h, p, bare_one G count z h)
  walk_back z h p (suc n) =
      let b = walk_back z h p n in
      let f = fed b.0 b.1 b.2 in
      (G.src f.0, w.src_in f.0 f.1, f.4, bare_more w f.0 b.0 z n f.1 f.2 f.3 b.3)

  stuck_loop : (v : ℕ) → v < G.nodes → P v → Loop G count
  stuck_loop v h p = let b = (walk_back v h p G.nodes).3 in long_loop w count b.walk b.bare (omega (arith, b.long))

-- A walk without a register goes up in the order, so a loop would lead from each place of its node to an earlier one.
module _ {nodes edges : ℕ} {from to count order : List ℕ} (s : Ordered nodes edges from to count order) (kind : List ℕ) where
  lower : {u v : ℕ} (p : Walk (column_graph nodes edges kind from to) u v) → registers (at count) p ≡ 0
      → (i : ℕ) → i < nodes → at order i ≡ v → (j : ℕ) × (at order j ≡ u) × (j + walk_steps p ≤ i)
  unfolding registers walk_steps
  lower (one h) c i l q = (i, q, omega arith)
  lower (more e h p) c i l q =
      let t = s.sources_first i e l h (sym q) (omega arith) in
      let b = lower p (omega arith) t.place (omega (arith, t.within)) t.holds in
      (b.0, b.1, omega (arith, b.2, t.within))

  no_place : (k : Loop (column_graph nodes edges kind from to) (at count)) (n i : ℕ) → i < n → i < nodes → ¬ (at order i ≡ k.node)
  no_place k zero i h l q = absurd (let z : ⊥ = omega arith in z)
  no_place k (suc n) i h l q =
      let b = lower k.walk k.bare i l q in
      no_place k n b.0 (omega (arith, b.2, k.moves)) (omega (arith, b.2)) b.1

  ordered_no_loop : ¬ Loop (column_graph nodes edges kind from to) (at count)
  ordered_no_loop k =
      let t = s.every_node k.node (walk_start k.walk) in
      no_place k nodes t.place t.within t.within t.holds

-- ── The end ─────────────────────────────────────────────────────────────────────────────────

module _ {g : BothWays} {p : Placing} {i : ℕ} (s : Going g p i) (h : p.placed ≤ i) where
  all_placed : p.placed ≡ g.wires.nodes → Ordered g.wires.nodes g.wires.edges g.wires.from.now g.wires.to.now g.count.now p.order
  all_placed q =
      let inside : (j : ℕ) → j < g.wires.nodes → at p.order j < g.wires.nodes = λ j l. s.stage.listed.nodes_only j (omega arith) in
      record {
        nodes_only = inside;
        every_node = λ v. once_whole p.order g.wires.nodes v (λ j m l k. s.stage.listed.once j m l (omega arith)) inside;
        sources_first = λ j e l. s.stage.sources_first j e (omega arith);
      }

  -- A node without a place waits for an open edge, and that leaves another, since all nodes of the order are taken.
  fed : (v : ℕ) → v < g.wires.nodes → flag p.mark v ≡ false
      → (e : ℕ) × (e < g.wires.edges) × (at g.wires.to.now e ≡ v) × (at g.count.now e ≡ 0) × (flag p.mark (at g.wires.from.now e) ≡ false)
  fed v l z =
      let o = s.waiting v l z in
      (o.edge, o.within, o.enters, s.stage.bare o.edge o.within o.is_open, source o.edge o.within o.is_open (cases_Bool (flag p.mark (at g.wires.from.now o.edge))))
    where
      source : (e : ℕ) → e < g.wires.edges → flag p.is_open e ≡ true → (flag p.mark (at g.wires.from.now e) ≡ true) ⊎ (flag p.mark (at g.wires.from.now e) ≡ false)
          → flag p.mark (at g.wires.from.now e) ≡ false
      source e k c (inr q) = q
      source e k c (inl q) =
          let t = s.stage.listed.stands (at g.wires.from.now e) (g.wires.laid.from_in e k) q in
          absurd (true≢false (sym c ∙ s.spent t.place e (omega (arith, t.within)) k (sym t.holds)))

  some_waits : p.placed < g.wires.nodes → (kind : List ℕ) → Loop (wires_graph kind g.wires) (at g.count.now)
  some_waits l kind =
      let o = left_out p.order p.placed g.wires.nodes l in
      stuck_loop (laid_wired g.wires.laid kind) (λ v. flag p.mark v ≡ false) fed o.0 o.1 (bare o.0 o.1 o.2 (cases_Bool (flag p.mark o.0)))
    where
      bare : (v : ℕ) → v < g.wires.nodes → ((j : ℕ) → j < p.placed → ¬ (at p.order j ≡ v)) → (flag p.mark v ≡ true) ⊎ (flag p.mark v ≡ false) → flag p.mark v ≡ false
      bare v k n (inr q) = q
      bare v k n (inl q) = let t = s.stage.listed.stands v k q in absurd (n t.place t.within t.holds)

  pub going_found : Found g.wires g.count.now p
  going_found = record { few = stage_few s.stage; whole = all_placed; stuck = some_waits }

module _ {w : Wires} {count : List ℕ} {p : Placing} (s : Found w count p) where
  pub found_told : (kind : List ℕ) → Told (ltb p.placed w.nodes) (Loop (wires_graph kind w) (at count))
  found_told kind = go (dec_lt p.placed w.nodes)
    where
      go : Dec (p.placed < w.nodes) → Told (ltb p.placed w.nodes) (Loop (wires_graph kind w) (at count))
      go (yes l) = rw (lt-ltb p.placed w.nodes l) (s.stuck l kind)
      go (no l) = rw (le-ltb p.placed w.nodes (omega arith)) (ordered_no_loop (s.whole (omega (arith, s.few))) kind)

  pub found_ordered : ((kind : List ℕ) → ¬ Loop (wires_graph kind w) (at count)) → Ordered w.nodes w.edges w.from.now w.to.now count p.order
  found_ordered none = go (dec_lt p.placed w.nodes)
    where
      go : Dec (p.placed < w.nodes) → Ordered w.nodes w.edges w.from.now w.to.now count p.order
      go (yes l) = absurd (none [] (s.stuck l []))
      go (no l) = s.whole (omega (arith, s.few))

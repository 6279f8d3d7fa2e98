-- What arrival times say of loops and of reach.
--   laid_wired          the columns' graph is wired
--   same_at             each number of a column that repeats one
--   none_marked         no mark is set in a column of marks that are not
--   above_cut           whether a time of a slice is above the period tells of the column that it is cut from
--   loop_told           delays 1, labels 0, the period the number of nodes: some time is above it where there is a loop without a register
--   from_told           delays 1 at pins and 0 elsewhere, no registers, the period 0: the time is 1 where a pin reaches the node
use Prim.Native.Nat.{ℕ, suc, ◌≤◌, ◌<◌}
use native.Mathlib.Omega.{arith}
use native.Mathlib.Decide.{ℕ_discrete, dec_lt}
use mathlib.Core.Path.{◌≡◌}
use mathlib.Core.Bool.{Bool, true, false}
use mathlib.Core.List.{List}
use borrow.Author.Tests.{eq-eqb, ne_eqb}
use lib.Dec.{eqb}
use lib.ListN.{length, take, replicate, get_or-replicate}
use Rattle.std.proofs.lemmas.List.{length-take-le, get_or-take}
use Rattle.theory.specs.Graph.{Graph, Wired}
use Rattle.theory.specs.Walk.{Walk, one, more, registers, delays, walk_steps, Loop}
use Rattle.theory.specs.inner.Labels.{Empty, Chain}
use Rattle.theory.specs.inner.Arrival.{Arrival}
use Rattle.theory.proofs.walks.Loops.{long_loop, rank_no_loop}
use Rattle.theory.proofs.walks.Walks.{walk_start}
use Rattle.graph.specs.Columns.{at, flag, column_graph}
use Rattle.graph.specs.Layers.{Told}
use Rattle.graph.specs.inner.Laid.{From, Laid}
use Rattle.graph.specs.inner.Marks.{Above, mark_of}

-- What the columns promise is what walks ask.
pub laid_wired : {nodes edges : ℕ} {from to : List ℕ} → Laid nodes edges from to → (kind : List ℕ) → Wired (column_graph nodes edges kind from to)
laid_wired f kind = record { src_in = f.from_in; dst_in = f.to_in }

-- A column of m numbers that are all x.
pub same_at : (m x : ℕ) {n : ℕ} → n ≤ m → (v : ℕ) → v < n → at (replicate m x) v ≡ x
same_at m x l v h = get_or-replicate m v x 0 (omega arith)

pub none_marked : (m : ℕ) {n : ℕ} → n ≤ m → (v : ℕ) → v < n → flag (replicate m false) v ≡ false
none_marked m l v h = get_or-replicate m v false false (omega arith)

pub above_cut : (xs : List ℕ) (n p : ℕ) (b : Bool) → n ≤ length xs → Told b (Above (take n xs) (length (take n xs)) p) → Told b (Above xs n p)
above_cut xs n p true h a =
    let low : a.node < n = omega (arith, a.within, length-take-le n xs h) in
    record { node = a.node; within = low; above = omega (arith, a.above, get_or-take n xs a.node 0 low) }
above_cut xs n p false h a = λ x.
    let e = get_or-take n xs x.node 0 x.within in
    a (record { node = x.node; within = omega (arith, x.within, length-take-le n xs h); above = omega (arith, e, x.above) })

-- A value on the nodes: n at each of them.
abbrev Even : Graph → (ℕ → ℕ) → ℕ → Type 0
Even G f n = (v : ℕ) → v < G.nodes → f v ≡ n

-- ── Loops ───────────────────────────────────────────────────────────────────────────────────

-- With labels 0 an empty edge is one without a register, so a chain is a walk without one; and with delays 1 its delay is the number of its nodes.
module _ {G : Graph} (w : Wired G) (count delay lab : ℕ → ℕ) (d : Even G delay 1) (z : Even G lab 0) where
  chain_bare : {u v : ℕ} (p : Walk G u v) → Chain count lab p → registers count p ≡ 0
  unfolding Chain registers
  chain_bare (one h) c = omega arith
  chain_bare (more e h p) c = omega (arith, chain_bare p c.1, c.0, z (G.src e) (w.src_in e h))

  chain_nodes : {u v : ℕ} (p : Walk G u v) → delays delay p ≡ suc (walk_steps p)
  unfolding delays walk_steps
  chain_nodes {u} (one h) = omega (arith, d u h)
  chain_nodes (more e h p) = omega (arith, chain_nodes p, d (G.dst e) (w.dst_in e h))

  -- A time above the number of nodes is reached by a chain of so many nodes: one of them comes twice.
  high_loop : (time : List ℕ) → Arrival G count delay G.nodes lab (at time) → (v : ℕ) → v < G.nodes → G.nodes < at time v → Loop G count
  high_loop time a v h l =
      let r = a.reached v h in
      long_loop w count r.walk (chain_bare r.walk r.chain) (omega (arith, r.enough, chain_nodes r.walk))

  -- The chain that reaches an edge's start goes on to its end.
  times_rise : (time : List ℕ) → Arrival G count delay G.nodes lab (at time) → ((v : ℕ) → v < G.nodes → at time v ≤ G.nodes)
      → (e : ℕ) → e < G.edges → count e ≡ 0 → at time (G.src e) < at time (G.dst e)
  unfolding Chain delays
  times_rise time a low e h q =
      let r = a.reached (G.src e) (w.src_in e h) in
      let empty : Empty G count lab e = omega (arith, q, z (G.src e) (w.src_in e h), z (G.dst e) (w.dst_in e h)) in
      omega (
        arith,
        r.enough,
        low (G.dst e) (w.dst_in e h),
        d (G.dst e) (w.dst_in e h),
        a.within r.from (G.dst e) (more e h r.walk) (empty, r.chain),
      )

  pub loop_told : (time : List ℕ) → Arrival G count delay G.nodes lab (at time)
      → (b : Bool) → Told b (Above time G.nodes G.nodes) → Told b (Loop G count)
  loop_told time a true t = high_loop time a t.node t.within t.above
  loop_told time a false t = rank_no_loop (at time) (times_rise time a low)
    where
      low : (v : ℕ) → v < G.nodes → at time v ≤ G.nodes
      low v h = go (dec_lt G.nodes (at time v))
        where
          go : Dec (G.nodes < at time v) → at time v ≤ G.nodes
          go (yes l) = absurd (t (record { node = v; within = h; above = l }))
          go (no l) = omega arith

-- ── Reach ───────────────────────────────────────────────────────────────────────────────────

module _ {G : Graph} (w : Wired G) (count delay lab : ℕ → ℕ) (pin : ℕ) (n : (e : ℕ) → e < G.edges → count e ≡ 0) (z : Even G lab 0)
    (m : (v : ℕ) → v < G.nodes → delay v ≡ mark_of (G.kind v) pin) where
  pin_one : (v : ℕ) → v < G.nodes → G.kind v ≡ pin → delay v ≡ 1
  pin_one v h q = rw (m v h, eq-eqb (G.kind v) pin q)

  -- Every walk is a chain.
  all_chains : {u v : ℕ} (p : Walk G u v) → Chain count lab p
  unfolding Chain
  all_chains (one h) = tt
  all_chains (more e h p) = (omega (arith, n e h, z (G.src e) (w.src_in e h), z (G.dst e) (w.dst_in e h)), all_chains p)

  -- A delay that is not 0 is a pin's, and a walk's delay begins with that of its start.
  delay_pin : (v : ℕ) → v < G.nodes → 0 < delay v → G.kind v ≡ pin
  delay_pin v h l = go (ℕ_discrete (G.kind v) pin)
    where
      go : Dec (G.kind v ≡ pin) → G.kind v ≡ pin
      go (yes q) = q
      go (no q) = absurd (let y : delay v ≡ 0 = rw (m v h, ne_eqb (G.kind v) pin q) in let x : ⊥ = omega arith in x)

  start_delay : {u v : ℕ} (p : Walk G u v) → delay u ≤ delays delay p
  unfolding delays
  start_delay (one h) = omega arith
  start_delay (more e h p) = omega (arith, start_delay p)

  -- On a walk with a delay some node is a pin; the rest of the walk from there.
  walk_pin : {u v : ℕ} (p : Walk G u v) → 0 < delays delay p → From G pin v
  unfolding delays
  walk_pin {u} (one h) l = record { start = u; kind = delay_pin u h l; walk = one h }
  walk_pin (more e h p) l = go (λ k. walk_pin p k) (dec_lt 0 (delay (G.dst e)))
    where
      go : (0 < delays delay p → From G pin (G.src e)) → Dec (0 < delay (G.dst e)) → From G pin (G.dst e)
      go before (yes k) = record { start = G.dst e; kind = delay_pin (G.dst e) (w.dst_in e h) k; walk = one (w.dst_in e h) }
      go before (no k) = let f = before (omega arith) in record { start = f.start; kind = f.kind; walk = more e h f.walk }

  -- A time of 1 is reached by a walk with a delay: some node on it is a pin, and the rest of the walk leads from there to v.
  -- The other way, a walk from a pin has the pin's delay at least, so the time at its end is not 0.
  pub from_told : (time : List ℕ) → Arrival G count delay 0 lab (at time)
      → (v : ℕ) → v < G.nodes → Told (eqb (at time v) 1) (From G pin v)
  from_told time a v h = go (ℕ_discrete (at time v) 1)
    where
      go : Dec (at time v ≡ 1) → Told (eqb (at time v) 1) (From G pin v)
      go (yes q) = let r = a.reached v h in rw (eq-eqb (at time v) 1 q) (walk_pin r.walk (omega (arith, r.enough)))
      go (no q) = rw (ne_eqb (at time v) 1 q) (λ f. q (omega (
        arith,
        (a.reached v h).enough,
        a.within f.start v f.walk (all_chains f.walk),
        start_delay f.walk,
        pin_one f.start (walk_start f.walk) f.kind,
      )))

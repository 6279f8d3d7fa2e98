-- The evaluation order, one node and one edge further.
--   stage_none          no node has a place yet
--   stage_room, stage_few, stage_short     a node without a place finds room; no more nodes have a place than there are, nor than the order has places
--   tried_same, tried_grown, tried_stands    trying a node leaves the places in the order as they are
--   stage_tried         a node is tried
--   tried_waiting       where all others wait, so does it, or it has its place
--   closed              an edge is passed, and open no more
--   stage_closed        so where it leaves a node of the order
--   closed_waiting      then the nodes that it does not enter still wait
--   taken_more          one more of the edges that leave a node is passed
use Prim.Native.Nat.{ℕ, ◌+◌, ◌≤◌, ◌<◌}
use native.Mathlib.Omega.{arith}
use native.Mathlib.Decide.{ℕ_discrete}
use mathlib.Core.Path.{◌≡◌, refl, sym, subst, ap, ◌∙◌}
use mathlib.Core.Logic.{◌⊎◌, inl, inr}
use mathlib.Core.Bool.{Bool, true, false}
use mathlib.Core.List.{List}
use borrow.Author.Tests.{eq-eqb}
use lib.Dec.{eqb}
use lib.ListN.{length, set, length-set, replicate}
use lib.Seq.{get_or-set_same, get_or-set_other}
use Rattle.std.proofs.lemmas.Bool.{true≢false, cases_Bool, eqb-true}
use Rattle.graph.specs.declared.both_ways.BothWays.{BothWays}
use Rattle.graph.specs.declared.order.Placing.{Placing}
use Rattle.graph.specs.Columns.{at, flag}
use Rattle.graph.specs.inner.Sort.{Stands, EdgesOf}
use Rattle.graph.specs.inner.Order.{OpenInto, Waiting, Tried, joins, stays, Stage, Taken}
use Rattle.graph.proofs.Sets.{set_stands}
use Rattle.graph.proofs.Once.{once_few, listed_none, listed_room, listed_more}
use Rattle.graph.proofs.Answers.{none_marked}

module _ {g : BothWays} {p : Placing} (s : Stage g p) where
  pub stage_room : (v : ℕ) → v < g.wires.nodes → flag p.mark v ≡ false → p.placed < 512
  stage_room v h z = omega (arith, listed_room _ _ _ _ s.listed v h z, g.wires.laid.nodes_fit)

  pub stage_few : p.placed ≤ g.wires.nodes
  stage_few = once_few p.order p.placed g.wires.nodes s.listed.once s.listed.nodes_only

  pub stage_short : p.placed ≤ 512
  stage_short = omega (arith, stage_few, g.wires.laid.nodes_fit)

-- No node has a place yet, and the edges without a register are open.
pub stage_none : (g : BothWays) (is_open : List Bool) → length is_open ≡ 1024 → ((e : ℕ) → e < g.wires.edges → flag is_open e ≡ eqb (at g.count.now e) 0)
    → Stage g (record { placed = 0; order = replicate 512 0; mark = replicate 512 false; is_open = is_open })
stage_none g is_open rows same = record {
  order_rows = refl;
  mark_rows = refl;
  open_rows = rows;
  listed = listed_none g.wires.nodes (replicate 512 0) (replicate 512 false) (none_marked 512 g.wires.laid.nodes_fit);
  bare = λ e h z. eqb-true (at g.count.now e) 0 (sym (same e h) ∙ z);
  passed = λ e h z n. absurd (true≢false (sym (eq-eqb (at g.count.now e) 0 z) ∙ sym (same e h) ∙ n));
  sources_first = λ i e h. absurd (let z : ⊥ = omega arith in z);
}

-- ── A node ──────────────────────────────────────────────────────────────────────────────────

module _ {g : BothWays} {p : Placing} {v : ℕ} {new : Placing} where
  pub tried_open : Tried g p v new → new.is_open ≡ p.is_open
  tried_open (joins z w e) = ap (λ q. q.is_open) e
  tried_open (stays w e) = ap (λ q. q.is_open) e

  pub tried_same : Tried g p v new → (i : ℕ) → i < p.placed → at new.order i ≡ at p.order i
  tried_same (joins z w e) i l = ap (λ q. at q.order i) e ∙ get_or-set_other p.order p.placed i v 0 (let y : ¬ (i ≡ p.placed) = λ y. omega arith in y)
  tried_same (stays w e) i l = ap (λ q. at q.order i) e

  pub tried_grown : Tried g p v new → p.placed ≤ new.placed
  tried_grown (joins z w e) = omega (arith, ap (λ q. q.placed) e)
  tried_grown (stays w e) = omega (arith, ap (λ q. q.placed) e)

  pub tried_stands : Tried g p v new → (x : ℕ) → Stands p.order p.placed x → Stands new.order new.placed x
  tried_stands t x s =
      record { place = s.place; within = omega (arith, s.within, tried_grown t); holds = tried_same t s.place s.within ∙ s.holds }

module _ {g : BothWays} {p : Placing} (s : Stage g p) (v : ℕ) (h : v < g.wires.nodes) {new : Placing} where
  -- Where v waits for no edge, the sources of its edges without a register all stand in the order already.
  pub stage_tried : Tried g p v new → Stage g new
  stage_tried (joins z w q) = subst (Stage g) (sym q) (record {
    order_rows = length-set p.order p.placed v ∙ s.order_rows;
    mark_rows = length-set p.mark v true ∙ s.mark_rows;
    open_rows = s.open_rows;
    listed = listed_more g.wires.nodes p.placed p.order p.mark s.listed v h z room (omega (arith, s.mark_rows, g.wires.laid.nodes_fit));
    bare = s.bare;
    passed = λ e l c n. tried_stands {g = g} (joins z w refl) (at g.wires.from.now e) (s.passed e l c n);
    sources_first = λ i e l. sources i e l (ℕ_discrete i p.placed);
  })
    where
      order : List ℕ
      order = set p.order p.placed v

      room : p.placed < length p.order
      room = omega (arith, stage_room s v h z, s.order_rows)

      bare_closed : (e : ℕ) → e < g.wires.edges → at g.wires.to.now e ≡ v → (flag p.is_open e ≡ true) ⊎ (flag p.is_open e ≡ false) → flag p.is_open e ≡ false
      bare_closed e k t (inl y) = absurd (w (record { edge = e; within = k; enters = t; is_open = y }))
      bare_closed e k t (inr y) = y

      sources : (i e : ℕ) → i < p.placed + 1 → Dec (i ≡ p.placed) → e < g.wires.edges → at g.wires.to.now e ≡ at order i → at g.count.now e ≡ 0
          → Stands order i (at g.wires.from.now e)
      sources i e l (yes y) k j c =
          let t : at g.wires.to.now e ≡ v = j ∙ ap (at order) y ∙ get_or-set_same p.order p.placed v 0 room in
          rw y (set_stands p.order p.placed v p.placed _ (omega arith) (s.passed e k c (bare_closed e k t (cases_Bool (flag p.is_open e)))))
      sources i e l (no y) k j c =
          set_stands p.order p.placed v i _ (omega arith) (s.sources_first i e (omega arith) k (j ∙ get_or-set_other p.order p.placed i v 0 y) c)
  stage_tried (stays w q) = subst (Stage g) (sym q) s

  pub tried_waiting : (n : ℕ) → ((w : ℕ) → w < n → ¬ (w ≡ v) → flag p.mark w ≡ false → OpenInto g p w) → Tried g p v new → Waiting g new n
  tried_waiting n others t w l i =
      let o = go t (ℕ_discrete w v) in
      record { edge = o.edge; within = o.within; enters = o.enters; is_open = ap (λ xs. flag xs o.edge) (tried_open t) ∙ o.is_open }
    where
      was : (q : Placing) → new ≡ q → flag q.mark w ≡ false
      was q e = subst (λ x. flag x.mark w ≡ false) e i

      go : Tried g p v new → Dec (w ≡ v) → OpenInto g p w
      go (joins z u q) (yes e) =
          absurd (true≢false (sym (get_or-set_same p.mark v true false (omega (arith, s.mark_rows, g.wires.laid.nodes_fit))) ∙ ap (flag (set p.mark v true)) (sym e) ∙ was _ q))
      go (joins z u q) (no e) = others w l e (sym (get_or-set_other p.mark v w true false e) ∙ was _ q)
      go (stays u q) (yes e) = subst (OpenInto g p) (sym e) (u (ap (flag p.mark) (sym e) ∙ was _ q))
      go (stays u q) (no e) = others w l e (was _ q)

-- ── An edge ─────────────────────────────────────────────────────────────────────────────────

abbrev pub closed : Placing → ℕ → Placing
closed p e = record p { is_open = set p.is_open e false }

pub closed_gone : (xs : List Bool) (e : ℕ) → e < length xs → flag (set xs e false) e ≡ false
closed_gone xs e h = get_or-set_same xs e false false h

pub closed_kept : (xs : List Bool) (e d : ℕ) → e < length xs → flag xs d ≡ false → flag (set xs e false) d ≡ false
closed_kept xs e d h n = go (ℕ_discrete d e)
  where
    go : Dec (d ≡ e) → flag (set xs e false) d ≡ false
    go (yes q) = ap (flag (set xs e false)) q ∙ closed_gone xs e h
    go (no q) = get_or-set_other xs e d false false q ∙ n

module _ {g : BothWays} {p : Placing} (s : Stage g p) (e : ℕ) (h : e < g.wires.edges) where
  inside : e < length p.is_open
  inside = omega (arith, s.open_rows, g.wires.laid.edges_fit)

  pub stage_closed : Stands p.order p.placed (at g.wires.from.now e) → Stage g (closed p e)
  stage_closed t = record {
    order_rows = s.order_rows;
    mark_rows = s.mark_rows;
    open_rows = length-set p.is_open e false ∙ s.open_rows;
    listed = s.listed;
    bare = λ d l z. s.bare d l (was d z (cases_Bool (flag p.is_open d)));
    passed = λ d l c n. known d l c n (ℕ_discrete d e);
    sources_first = s.sources_first;
  }
    where
      was : (d : ℕ) → flag (set p.is_open e false) d ≡ true → (flag p.is_open d ≡ true) ⊎ (flag p.is_open d ≡ false) → flag p.is_open d ≡ true
      was d z (inl y) = y
      was d z (inr y) = absurd (true≢false (sym z ∙ closed_kept p.is_open e d inside y))

      known : (d : ℕ) → d < g.wires.edges → at g.count.now d ≡ 0 → flag (set p.is_open e false) d ≡ false → Dec (d ≡ e) → Stands p.order p.placed (at g.wires.from.now d)
      known d l c n (yes q) = subst (λ x. Stands p.order p.placed (at g.wires.from.now x)) (sym q) t
      known d l c n (no q) = s.passed d l c (sym (get_or-set_other p.is_open e d false false q) ∙ n)

  pub closed_waiting : Waiting g p g.wires.nodes → (w : ℕ) → w < g.wires.nodes → ¬ (w ≡ at g.wires.to.now e) → flag p.mark w ≡ false → OpenInto g (closed p e) w
  closed_waiting a w l n z =
      let o = a w l z in
      let y : ¬ (o.edge ≡ e) = λ q. n (sym o.enters ∙ ap (at g.wires.to.now) q) in
      record { edge = o.edge; within = o.within; enters = o.enters; is_open = get_or-set_other p.is_open e o.edge false false y ∙ o.is_open }

-- ── The edges that leave a node ─────────────────────────────────────────────────────────────

module _ {g : BothWays} {out : List ℕ} {p : Placing} {u : ℕ} (o : EdgesOf g.wires.from.now g.wires.edges u out) {q : Placing} {k : ℕ} (t : Taken g out p u q k)
    (h : k < length out) where
  edge : at out k < g.wires.edges
  edge = o.edge k h

  entered : at g.wires.to.now (at out k) < g.wires.nodes
  entered = g.wires.laid.to_in (at out k) edge

  -- The edge leaves u, which stands in the order.
  pub taken_closed : Stage g (closed q (at out k))
  taken_closed = stage_closed t.taking.stage (at out k) edge (subst (Stands q.order q.placed) (sym (o.ends k h)) t.taking.taken)

  pub taken_reads : (at out k < 1024) × (at out k < length g.wires.to.now) × (at g.wires.to.now (at out k) < g.wires.nodes)
  taken_reads = (omega (arith, edge, g.wires.laid.edges_fit), omega (arith, edge, g.wires.laid.to_rows), entered)

  pub taken_more : {new : Placing} → Tried g (closed q (at out k)) (at g.wires.to.now (at out k)) new → Taken g out p u new (k + 1)
  taken_more {new} r = record {
    taking = record {
      stage = stage_tried taken_closed _ entered r;
      waiting = tried_waiting taken_closed _ entered g.wires.nodes (closed_waiting t.taking.stage (at out k) edge t.taking.waiting) r;
      taken = tried_stands r u t.taking.taken;
    };
    more = omega (arith, t.more, tried_grown r);
    same = λ i l. tried_same r i (omega (arith, t.more)) ∙ t.same i l;
    kept = λ e n. shut e (closed_kept q.is_open (at out k) e inside (t.kept e n));
    gone = λ j l. gone j l (ℕ_discrete j k);
  }
    where
      inside : at out k < length q.is_open
      inside = omega (arith, taken_reads.0, t.taking.stage.open_rows)

      shut : (e : ℕ) → flag (set q.is_open (at out k) false) e ≡ false → flag new.is_open e ≡ false
      shut e y = ap (λ xs. flag xs e) (tried_open r) ∙ y

      gone : (j : ℕ) → j < k + 1 → Dec (j ≡ k) → flag new.is_open (at out j) ≡ false
      gone j l (yes y) = shut (at out j) (ap (λ i. flag (set q.is_open (at out k) false) (at out i)) y ∙ closed_gone q.is_open (at out k) inside)
      gone j l (no y) = shut (at out j) (closed_kept q.is_open (at out k) (at out j) inside (t.gone j (omega arith)))

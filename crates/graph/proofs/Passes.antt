-- Reach in passes.
--   marked_has, has_marked, mark_tells     a mark that tells of a property, and back
--   within_pin, within_none    a pin is reached over no edge, and nothing else is
--   within_later, within_more    over n edges at most, so over n + 1 at most, and over any number above n
--   within_edge         one edge further
--   within_split        reached over n + 1 edges at most: over n at most, or by a last edge from a node that is
--   first_after         the pins are what is marked before the first pass
--   within?             it can be told
--   pass_leaves         a pass marks what is reached over one edge more
--   after_pass          so the layer after it is one after so many passes
--   reached_told        where a pass marked nothing, all that is reached is marked
--   layer_from          what a walk leaves
--   settled_told        the same of any layer that a walk leaves where fewer passes were made than asked for
use Prim.Native.Nat.{ℕ, zero, suc, ◌+◌, ◌≤◌, ◌<◌}
use native.Mathlib.Omega.{arith}
use native.Mathlib.Decide.{ℕ_discrete, dec_lt}
use mathlib.Core.Path.{◌≡◌, refl, sym, subst, ap, ◌∙◌}
use mathlib.Core.Logic.{◌⊎◌, inl, inr, ⊎_elim}
use mathlib.Core.List.{List}
use mathlib.Core.Bool.{Bool, true, false}
use Rattle.std.proofs.lemmas.Bool.{true≢false}
use borrow.Author.Count.{below_more}
use Rattle.theory.specs.Graph.{Graph, Wired}
use Rattle.theory.specs.Walk.{Walk, one, more, walk_steps}
use Rattle.theory.proofs.numbers.Find.{any}
use Rattle.graph.specs.declared.layers.Layer.{Layer}
use Rattle.graph.specs.declared.wires.Wires.{Wires}
use Rattle.graph.specs.Columns.{at, flag}
use Rattle.graph.specs.Wires.{wires_graph}
use Rattle.graph.specs.Layers.{Told, FromWithin, Layered, NewAt, LayerFrom}
use Rattle.graph.specs.inner.Laid.{From}
use Rattle.graph.specs.inner.Sort.{Stands}
use Rattle.graph.specs.inner.Layers.{Spread, Steady, AfterPasses, PassLeaves}
use Rattle.graph.proofs.Spread.{queued_stands, PinBelow, Fed}

-- ── Marks ───────────────────────────────────────────────────────────────────────────────────

pub marked_has : {x : Bool} {P : Type 0} → Told x P → x ≡ true → P
marked_has t e = rw e at t

pub has_marked : {x : Bool} {P : Type 0} → Told x P → P → x ≡ true
has_marked {x = true} t p = refl
has_marked {x = false} t p = absurd (t p)

pub mark_tells : {x : Bool} {P : Type 0} → (x ≡ true → P) → (P → x ≡ true) → Told x P
mark_tells {x = true} f g = f refl
mark_tells {x = false} f g = λ p. true≢false (sym (g p))

-- ── Walks of so many edges ──────────────────────────────────────────────────────────────────

module _ {G : Graph} {pin : ℕ} where
  pub within_pin : {n v : ℕ} → v < G.nodes → G.kind v ≡ pin → FromWithin G pin n v
  unfolding walk_steps
  within_pin {n} {v} h q = record { start = v; kind = q; walk = one h; few = omega arith }

  pub within_none : {v : ℕ} → FromWithin G pin 0 v → G.kind v ≡ pin
  unfolding walk_steps
  within_none w = go w.walk w.kind w.few
    where
      go : {u v : ℕ} (p : Walk G u v) → G.kind u ≡ pin → walk_steps p ≤ 0 → G.kind v ≡ pin
      go (one h) q l = q
      go (more e h p) q l = absurd (let z : ⊥ = omega arith in z)

  pub within_later : {n v : ℕ} → FromWithin G pin n v → FromWithin G pin (n + 1) v
  within_later w = record { start = w.start; kind = w.kind; walk = w.walk; few = omega (arith, w.few) }

  pub within_more : {n m v : ℕ} → n ≤ m → FromWithin G pin n v → FromWithin G pin m v
  within_more l w = record { start = w.start; kind = w.kind; walk = w.walk; few = omega (arith, w.few) }

  pub within_edge : {n : ℕ} (e : ℕ) → e < G.edges → FromWithin G pin n (G.src e) → FromWithin G pin (n + 1) (G.dst e)
  unfolding walk_steps
  within_edge e h w = record { start = w.start; kind = w.kind; walk = more e h w.walk; few = omega (arith, w.few) }

  -- The walk's last edge is taken off.
  pub within_split : {n v : ℕ} → FromWithin G pin (n + 1) v → FromWithin G pin n v ⊎ ((e : ℕ) × (e < G.edges) × (G.dst e ≡ v) × FromWithin G pin n (G.src e))
  unfolding walk_steps
  within_split {n} w = go w.walk w.kind w.few
    where
      go : {u v : ℕ} (p : Walk G u v) → G.kind u ≡ pin → walk_steps p ≤ n + 1
          → FromWithin G pin n v ⊎ ((e : ℕ) × (e < G.edges) × (G.dst e ≡ v) × FromWithin G pin n (G.src e))
      go {u} (one h) q l = inl (record { start = u; kind = q; walk = one h; few = omega arith })
      go {u} (more e h p) q l = inr (e, h, refl, record { start = u; kind = q; walk = p; few = omega arith })

-- The last edge of a walk over n + 1 edges is looked for among all edges.
pub within? : {G : Graph} → Wired G → (pin n v : ℕ) → v < G.nodes → Dec (FromWithin G pin n v)
within? {G} i pin zero v h = go (ℕ_discrete (G.kind v) pin)
  where
    go : Dec (G.kind v ≡ pin) → Dec (FromWithin G pin 0 v)
    go (yes q) = yes (within_pin h q)
    go (no q) = no (λ w. q (within_none w))
within? {G} i pin (suc n) v h = go (λ u l. within? i pin n u l) (within? i pin n v h)
  where
    Last : ℕ → Type 0
    Last e = (G.dst e ≡ v) × FromWithin G pin n (G.src e)

    last? : ((u : ℕ) → u < G.nodes → Dec (FromWithin G pin n u)) → (e : ℕ) → e < G.edges → Dec (Last e)
    last? d e l = by_end (ℕ_discrete (G.dst e) v)
      where
        by_start : G.dst e ≡ v → Dec (FromWithin G pin n (G.src e)) → Dec (Last e)
        by_start q (yes w) = yes (q, w)
        by_start q (no w) = no (λ x. w x.1)

        by_end : Dec (G.dst e ≡ v) → Dec (Last e)
        by_end (yes q) = by_start q (d (G.src e) (i.src_in e l))
        by_end (no q) = no (λ x. q x.0)

    one_more : FromWithin G pin (suc n) v → FromWithin G pin (n + 1) v
    one_more = within_more (omega arith)

    go : ((u : ℕ) → u < G.nodes → Dec (FromWithin G pin n u)) → Dec (FromWithin G pin n v) → Dec (FromWithin G pin (suc n) v)
    go d (yes w) = yes (within_more (omega arith) w)
    go d (no w) = ⊎_elim
        (λ x. yes (subst (FromWithin G pin (suc n)) x.2.0 (within_more (omega arith) (within_edge x.0 x.1 x.2.1))))
        (λ none. no (λ y. ⊎_elim w (λ x. none x.0 x.1 (x.2, x.3)) (within_split (one_more y))))
        (any G.edges (last? d))

-- ── Before the first pass ───────────────────────────────────────────────────────────────────

pub first_after : {w : Wires} {pin : ℕ} {kind : List ℕ} {none layer : Layer} → ((v : ℕ) → v < w.nodes → flag none.marks v ≡ false) → none.passes ≡ 0 → none.lo ≡ 0
    → Spread w.nodes (PinBelow kind pin w.nodes) none layer → AfterPasses w kind pin layer
first_after {w} {pin} {kind} {none} {layer} bare p o s = record {
  steady = record {
    queued = s.queued;
    low = omega (arith, s.begins);
    few = omega (arith, s.passes);
    past = λ e h t. absurd (let z : ⊥ = omega (arith, t.within, s.begins) in z);
  };
  layered = λ v h. subst (λ n. Told (flag layer.marks v) (FromWithin (wires_graph kind w) pin n v)) (sym (s.passes ∙ p)) (mark_tells
      (λ e. ⊎_elim (λ y. absurd (true≢false (sym y ∙ bare v h))) (λ x. within_pin h x.1) (s.only v h e))
      (λ r. s.fed v h (h, within_none r)));
  going = λ n l. absurd (let z : ⊥ = omega (arith, s.passes) in z);
  early = λ i l. absurd (let z : ⊥ = omega (arith, s.begins) in z);
  late = λ i m k l n r. absurd (let z : ⊥ = omega (arith, s.passes) in z);
}

-- ── A pass ──────────────────────────────────────────────────────────────────────────────────

-- A node is marked after the pass where it was marked, or where an edge from a node in the queue enters it: one from a place before lo ends in a node
-- that was marked, and those from the other places were looked at.
module _ {w : Wires} (before : Layer) (b : Steady w before) {layer : Layer} (s : Spread w.nodes (Fed w before.queue before.lo before.hi) before layer) where
  end_marked : (e : ℕ) → e < w.edges → Stands before.queue before.hi (at w.from.now e) → flag layer.marks (at w.to.now e) ≡ true
  end_marked e h t = go (dec_lt t.place before.lo)
    where
      go : Dec (t.place < before.lo) → flag layer.marks (at w.to.now e) ≡ true
      go (yes l) = s.stay _ (w.laid.to_in e h) (b.past e h (record { place = t.place; within = l; holds = t.holds }))
      go (no l) = s.fed _ (w.laid.to_in e h) (record { edge = e; inside = h; place = t.place; above = omega arith; below = t.within; leaves = t.holds; enters = refl })

  layered : (kind : List ℕ) (pin : ℕ) → Layered (wires_graph kind w) pin before.passes before.marks
      → Layered (wires_graph kind w) pin (before.passes + 1) layer.marks
  layered kind pin r v h = mark_tells (λ e. ⊎_elim (λ y. within_later (marked_has (r v h) y)) by_edge (s.only v h e)) back
    where
      by_edge : Fed w before.queue before.lo before.hi v → FromWithin (wires_graph kind w) pin (before.passes + 1) v
      by_edge x =
          let u : flag before.marks (at w.from.now x.edge) ≡ true = ap (flag before.marks) (sym x.leaves) ∙ b.queued.listed.marked x.place x.below in
          subst (FromWithin (wires_graph kind w) pin (before.passes + 1)) x.enters
          (within_edge x.edge x.inside (marked_has (r (at w.from.now x.edge) (w.laid.from_in x.edge x.inside)) u))

      back : FromWithin (wires_graph kind w) pin (before.passes + 1) v → flag layer.marks v ≡ true
      back y = ⊎_elim
          (λ y. s.stay v h (has_marked (r v h) y))
          (λ x. let l = w.laid.from_in x.0 x.1 in
          subst (λ y. flag layer.marks y ≡ true) x.2 (end_marked x.0 x.1 (queued_stands b.queued l (has_marked (r (at w.from.now x.0) l) x.3))))
          (within_split y)

  pub pass_leaves : before.lo < before.hi → PassLeaves w before (record layer { passes = layer.passes + 1; lo = before.hi })
  pass_leaves l = record {
    passes = ap (λ n. n + 1) s.passes;
    goes_on = refl;
    steady = record {
      queued = record { nodes_fit = s.queued.nodes_fit; queue_rows = s.queued.queue_rows; mark_rows = s.queued.mark_rows; listed = s.queued.listed };
      low = s.longer;
      few = omega (arith, b.few, s.passes);
      past = λ e h t. end_marked e h (record { place = t.place; within = t.within; holds = sym (s.front t.place t.within) ∙ t.holds });
    };
    layered = λ kind pin r. subst (λ n. Layered (wires_graph kind w) pin n layer.marks) (ap (λ n. n + 1) (sym s.passes)) (layered kind pin r);
    early = λ i j. ap (flag before.marks) (s.front i j) ∙ b.queued.listed.marked i j;
    late = λ i j k e.
        let t = queued_stands b.queued (s.queued.listed.nodes_only i k) e in
        s.queued.listed.once t.place i (omega (arith, t.within)) k (s.front t.place t.within ∙ t.holds);
  }

-- The node at place lo was marked by the last pass and by none before it, so one more pass that marked something is counted.
pub after_pass : {w : Wires} {pin : ℕ} {kind : List ℕ} (before after : Layer) → AfterPasses w kind pin before → before.lo < before.hi
    → PassLeaves w before after → AfterPasses w kind pin after
after_pass {w} {pin} {kind} before after a l p = record {
  steady = p.steady;
  layered = p.layered kind pin a.layered;
  going = λ n k. below_more (NewAt G pin) before.passes a.going new n (omega (arith, p.passes));
  early = λ i k. (before.passes, omega (arith, p.passes), marked_has (a.layered (at after.queue i) (there i (omega (arith, p.steady.low)))) (p.early i k));
  late = λ i m j k o r.
      p.late i j k (has_marked (a.layered (at after.queue i) (there i k)) (within_more (omega (arith, p.passes)) r));
}
  where
    G : Graph
    G = wires_graph kind w

    there : (i : ℕ) → i < after.hi → at after.queue i < w.nodes
    there = p.steady.queued.listed.nodes_only

    new : NewAt G pin before.passes
    new =
        let q = a.steady.queued.listed in
        let h = q.nodes_only before.lo l in
        record { node = at before.queue before.lo; there = h; reached = marked_has (a.layered _ h) (q.marked before.lo l); first = λ m k. a.late before.lo m (omega arith) l k }

-- ── After the last pass ─────────────────────────────────────────────────────────────────────

module _ {w : Wires} {pin : ℕ} {kind : List ℕ} (last : Layer) (a : AfterPasses w kind pin last) where
  -- The last pass marked nothing, so every edge from a marked node ends in one: along a walk from a pin all nodes are marked.
  walk_marked : last.hi ≤ last.lo → {u v : ℕ} → Walk (wires_graph kind w) u v → at kind u ≡ pin → flag last.marks v ≡ true
  walk_marked done (one h) q = has_marked (a.layered _ h) (within_pin h q)
  walk_marked done (more e h p) q =
      let t = queued_stands a.steady.queued (w.laid.from_in e h) (walk_marked done p q) in
      a.steady.past e h (record { place = t.place; within = omega (arith, t.within); holds = t.holds })

  pub reached_told : last.hi ≤ last.lo → (v : ℕ) → v < w.nodes → Told (flag last.marks v) (From (wires_graph kind w) pin v)
  reached_told done v h = mark_tells {P = From (wires_graph kind w) pin v}
      (λ e. let r = marked_has (a.layered v h) e in record { start = r.start; kind = r.kind; walk = r.walk })
      (λ r. walk_marked done r.walk r.kind)

  -- A node that the last pass marked first would stand at a place from lo on.
  pub layer_from : {most : ℕ} → last.passes ≤ most → (last.passes < most → last.hi ≤ last.lo) → LayerFrom (wires_graph kind w) pin most last
  layer_from few ended = record {
    few = few;
    layered = a.layered;
    going = a.going;
    ended = λ l x.
        let t = queued_stands a.steady.queued x.there (has_marked (a.layered x.node x.there) x.reached) in
        let e = a.early t.place (omega (arith, t.within, ended l)) in
        x.first e.0 e.1 (subst (FromWithin (wires_graph kind w) pin e.0) t.holds e.2);
  }

-- Where pass n marks nothing, every node that is reached is reached over n edges at most: along a walk, a node that is reached over n and over no fewer
-- would be new at n, so the next is reached over n too.
module _ {G : Graph} (i : Wired G) {pin n : ℕ} (none : ¬ NewAt G pin n) where
  settled_within : {u v : ℕ} → Walk G u v → G.kind u ≡ pin → FromWithin G pin n v
  settled_within (one h) q = within_pin h q
  settled_within (more e h p) q = next n none (settled_within p q)
    where
      next : (m : ℕ) → ¬ NewAt G pin m → FromWithin G pin m (G.src e) → FromWithin G pin m (G.dst e)
      next zero x w = absurd (x (record { node = G.src e; there = i.src_in e h; reached = w; first = λ k l. absurd (let z : ⊥ = omega arith in z) }))
      next (suc m) x w = go (within? i pin m (G.src e) (i.src_in e h))
        where
          go : Dec (FromWithin G pin m (G.src e)) → FromWithin G pin (suc m) (G.dst e)
          go (yes y) = within_more (omega arith) (within_edge e h y)
          go (no y) = absurd (x (record { node = G.src e; there = i.src_in e h; reached = w; first = λ k l z. y (within_more (omega arith) z) }))

  pub settled_told : (marks : List Bool) → Layered G pin n marks → (v : ℕ) → v < G.nodes → Told (flag marks v) (From G pin v)
  settled_told marks a v h = mark_tells {P = From G pin v}
      (λ e. let w = marked_has (a v h) e in record { start = w.start; kind = w.kind; walk = w.walk })
      (λ r. has_marked (a v h) (settled_within r.walk r.kind))

-- Marks that spread, and the queue of the marked nodes.
--   spread_still, spread_none  to nodes that have a mark; to no node
--   spread_then                to some nodes and then to others
--   queued_few, queued_short, mark_room     no more are in the queue than there are nodes, nor than it has places, and fewer where one has no mark
--   queued_stands              a marked node stands in the queue
--   spread_mark                to one node, which has a mark or gets one
--   Fed                        v is the end of an edge that leaves a node at one of the places from lo up to hi of the queue
--   ends_turn                  over the edges at places of a list: one further
--   pins_none, pins_turn, pins_skip    over the nodes of a kind: none yet, one further
--   fed_turn                   over the nodes in the queue: one further
use Prim.Native.Nat.{ℕ, ◌+◌, ◌≤◌, ◌<◌}
use native.Mathlib.Omega.{arith}
use native.Mathlib.Decide.{ℕ_discrete}
use mathlib.Core.Path.{◌≡◌, refl, sym, ap, ◌∙◌}
use mathlib.Core.Logic.{◌⊎◌, inl, inr, ⊎_elim}
use mathlib.Core.List.{List}
use mathlib.Core.Bool.{true, false}
use lib.ListN.{length, set, length-set}
use lib.Seq.{get_or-set_same, get_or-set_other}
use Rattle.std.proofs.lemmas.Bool.{cases_Bool}
use Rattle.graph.specs.declared.layers.Layer.{Layer}
use Rattle.graph.specs.declared.wires.Wires.{Wires}
use Rattle.graph.specs.Columns.{at, flag}
use Rattle.graph.specs.inner.Sort.{Stands, EdgesOf}
use Rattle.graph.specs.inner.Layers.{Queued, with_mark, EndOf, Spread}
use Rattle.graph.proofs.Once.{once_few, listed_room, listed_more}

-- ── To some nodes, and then to others ───────────────────────────────────────────────────────

module _ {nodes : ℕ} {l : Layer} where
  pub spread_still : {A : ℕ → Type 0} → Queued nodes l → ((v : ℕ) → v < nodes → A v → flag l.marks v ≡ true) → Spread nodes A l l
  spread_still s fed = record {
    queued = s;
    passes = refl;
    begins = refl;
    longer = omega arith;
    front = λ i h. refl;
    stay = λ v h e. e;
    fed = fed;
    only = λ v h e. inl e;
  }

  pub spread_none : {A : ℕ → Type 0} → Queued nodes l → ((v : ℕ) → ¬ A v) → Spread nodes A l l
  spread_none s none = spread_still s (λ v h a. absurd (none v a))

  pub spread_then : {A B C : ℕ → Type 0} {l' l'' : Layer} → ((v : ℕ) → C v → A v ⊎ B v) → ((v : ℕ) → A v ⊎ B v → C v)
      → Spread nodes A l l' → Spread nodes B l' l'' → Spread nodes C l l''
  spread_then apart both s t = record {
    queued = t.queued;
    passes = t.passes ∙ s.passes;
    begins = t.begins ∙ s.begins;
    longer = omega (arith, s.longer, t.longer);
    front = λ i h. t.front i (omega (arith, s.longer)) ∙ s.front i h;
    stay = λ v h e. t.stay v h (s.stay v h e);
    fed = λ v h c. ⊎_elim (λ a. t.stay v h (s.fed v h a)) (λ b. t.fed v h b) (apart v c);
    only = λ v h e. ⊎_elim (λ x. ⊎_elim inl (λ a. inr (both v (inl a))) (s.only v h x)) (λ b. inr (both v (inr b))) (t.only v h e);
  }

-- ── To one node ─────────────────────────────────────────────────────────────────────────────

pub queued_few : {nodes : ℕ} {l : Layer} → Queued nodes l → l.hi ≤ nodes
queued_few {nodes} {l} s = once_few l.queue l.hi nodes s.listed.once s.listed.nodes_only

pub queued_short : {nodes : ℕ} {l : Layer} → Queued nodes l → l.hi ≤ 512
queued_short s = omega (arith, queued_few s, s.nodes_fit)

pub queued_stands : {nodes v : ℕ} {l : Layer} → Queued nodes l → v < nodes → flag l.marks v ≡ true → Stands l.queue l.hi v
queued_stands {v = v} s h e = s.listed.stands v h e

module _ {nodes v : ℕ} {l : Layer} (h : v < nodes) (s : Queued nodes l) where
  pub mark_room : flag l.marks v ≡ false → l.hi < nodes
  mark_room = listed_room nodes l.hi l.queue l.marks s.listed v h

  spread_new : flag l.marks v ≡ false → Spread nodes (λ u. u ≡ v) l (record l { hi = l.hi + 1; queue = set l.queue l.hi v; marks = set l.marks v true })
  spread_new z = record {
    queued = record {
      nodes_fit = s.nodes_fit;
      queue_rows = length-set l.queue l.hi v ∙ s.queue_rows;
      mark_rows = length-set l.marks v true ∙ s.mark_rows;
      listed = listed_more nodes l.hi l.queue l.marks s.listed v h z (omega (arith, mark_room z, s.queue_rows, s.nodes_fit)) inside;
    };
    passes = refl;
    begins = refl;
    longer = omega arith;
    front = λ i k. get_or-set_other l.queue l.hi i v 0 (let y : ¬ (i ≡ l.hi) = λ e. omega arith in y);
    stay = λ u k e. stay u e (ℕ_discrete u v);
    fed = λ u k e. same u e;
    only = λ u k e. only u e (ℕ_discrete u v);
  }
    where
      inside : v < length l.marks
      inside = omega (arith, s.mark_rows, s.nodes_fit)

      same : (u : ℕ) → u ≡ v → flag (set l.marks v true) u ≡ true
      same u e = ap (flag (set l.marks v true)) e ∙ get_or-set_same l.marks v true false inside

      stay : (u : ℕ) → flag l.marks u ≡ true → Dec (u ≡ v) → flag (set l.marks v true) u ≡ true
      stay u e (yes y) = same u y
      stay u e (no y) = get_or-set_other l.marks v u true false y ∙ e

      only : (u : ℕ) → flag (set l.marks v true) u ≡ true → Dec (u ≡ v) → (flag l.marks u ≡ true) ⊎ (u ≡ v)
      only u e (yes y) = inr y
      only u e (no y) = inl (sym (get_or-set_other l.marks v u true false y) ∙ e)

  pub spread_mark : Spread nodes (λ u. u ≡ v) l (with_mark l v)
  spread_mark = go (cases_Bool (flag l.marks v))
    where
      go : (flag l.marks v ≡ true) ⊎ (flag l.marks v ≡ false) → Spread nodes (λ u. u ≡ v) l (with_mark l v)
      go (inl e) = rw e (spread_still s (λ u k q. ap (flag l.marks) q ∙ e))
      go (inr e) = rw e (spread_new e)

-- ── Over the edges at places of a list ──────────────────────────────────────────────────────

module _ {to links : List ℕ} where
  pub ends_turn : {nodes k : ℕ} {l l' l'' : Layer} → Spread nodes (EndOf to links k) l l' → Spread nodes (λ u. u ≡ at to (at links k)) l' l''
      → Spread nodes (EndOf to links (k + 1)) l l''
  ends_turn {k = k} = spread_then (λ v x. apart v x (ℕ_discrete x.place k)) (λ v. ⊎_elim wider last)
    where
      apart : (v : ℕ) (x : EndOf to links (k + 1) v) → Dec (x.place ≡ k) → EndOf to links k v ⊎ (v ≡ at to (at links k))
      apart v x (yes e) = inr (sym x.ends ∙ ap (λ p. at to (at links p)) e)
      apart v x (no e) = inl (record { place = x.place; below = omega (arith, x.below); ends = x.ends })

      wider : {v : ℕ} → EndOf to links k v → EndOf to links (k + 1) v
      wider x = record { place = x.place; below = omega (arith, x.below); ends = x.ends }

      last : {v : ℕ} → v ≡ at to (at links k) → EndOf to links (k + 1) v
      last e = record { place = k; below = omega arith; ends = sym e }

-- ── Over the nodes of a kind ────────────────────────────────────────────────────────────────

-- u is one of the first v nodes, and of the kind that is asked for.
abbrev pub PinBelow : List ℕ → ℕ → ℕ → ℕ → Type 0
PinBelow kind pin v u = (u < v) × (at kind u ≡ pin)

module _ (kind : List ℕ) (pin : ℕ) where
  pub pins_none : (u : ℕ) → ¬ PinBelow kind pin 0 u
  pins_none u x = omega (arith, x.0)

  module _ {nodes v : ℕ} {l l' : Layer} where
    pub pins_turn : {l'' : Layer} → at kind v ≡ pin → Spread nodes (PinBelow kind pin v) l l' → Spread nodes (λ u. u ≡ v) l' l''
        → Spread nodes (PinBelow kind pin (v + 1)) l l''
    pins_turn p = spread_then (λ u x. apart u x (ℕ_discrete u v)) (λ u. ⊎_elim (λ x. (omega (arith, x.0), x.1)) (λ e. (omega arith, ap (at kind) e ∙ p)))
      where
        apart : (u : ℕ) → PinBelow kind pin (v + 1) u → Dec (u ≡ v) → PinBelow kind pin v u ⊎ (u ≡ v)
        apart u x (yes e) = inr e
        apart u x (no e) = inl (omega (arith, x.0), x.1)

    pub pins_skip : ¬ (at kind v ≡ pin) → Spread nodes (PinBelow kind pin v) l l' → Spread nodes (PinBelow kind pin (v + 1)) l l'
    pins_skip n s = spread_then {B = λ u. ⊥} (λ u x. inl (below u x (ℕ_discrete u v))) (λ u. ⊎_elim (λ x. (omega (arith, x.0), x.1)) absurd) s (spread_none s.queued (λ u z. z))
      where
        below : (u : ℕ) → PinBelow kind pin (v + 1) u → Dec (u ≡ v) → PinBelow kind pin v u
        below u x (yes e) = absurd (n (ap (at kind) (sym e) ∙ x.1))
        below u x (no e) = (omega (arith, x.0), x.1)

-- ── Over the nodes in the queue ─────────────────────────────────────────────────────────────

pub record Fed (w : Wires) (queue : List ℕ) (lo hi v : ℕ) : Type 0 where
  pub edge : ℕ
  pub inside : edge < w.edges
  pub place : ℕ
  pub above : lo ≤ place
  pub below : place < hi
  pub leaves : at queue place ≡ at w.from.now edge
  pub enters : at w.to.now edge ≡ v

module _ {w : Wires} {q : List ℕ} {lo : ℕ} where
  -- The edges that leave the node u, which stands at place i, are those of `links`.
  pub fed_turn : {i u : ℕ} {links : List ℕ} {l l' l'' : Layer} → lo ≤ i → u ≡ at q i → EdgesOf w.from.now w.edges u links → Spread w.nodes (Fed w q lo i) l l'
      → Spread w.nodes (EndOf w.to.now links (length links)) l' l'' → Spread w.nodes (Fed w q lo (i + 1)) l l''
  fed_turn {i} {u} {links} low here o = spread_then (λ v x. apart v x (ℕ_discrete x.place i)) (λ v. ⊎_elim wider last)
    where
      Ends : ℕ → Type 0
      Ends = EndOf w.to.now links (length links)

      apart : (v : ℕ) (x : Fed w q lo (i + 1) v) → Dec (x.place ≡ i) → Fed w q lo i v ⊎ Ends v
      apart v x (yes e) =
          let t = o.every x.edge x.inside (sym x.leaves ∙ ap (at q) e ∙ sym here) in
          inr (record { place = t.place; below = t.within; ends = ap (at w.to.now) t.holds ∙ x.enters })
      apart v x (no e) =
          inl (record { edge = x.edge; inside = x.inside; place = x.place; above = x.above; below = omega (arith, x.below); leaves = x.leaves; enters = x.enters })

      wider : {v : ℕ} → Fed w q lo i v → Fed w q lo (i + 1) v
      wider x = record { edge = x.edge; inside = x.inside; place = x.place; above = x.above; below = omega (arith, x.below); leaves = x.leaves; enters = x.enters }

      last : {v : ℕ} → Ends v → Fed w q lo (i + 1) v
      last x = record {
        edge = at links x.place;
        inside = o.edge x.place x.below;
        place = i;
        above = low;
        below = omega arith;
        leaves = sym here ∙ sym (o.ends x.place x.below);
        enters = x.ends;
      }

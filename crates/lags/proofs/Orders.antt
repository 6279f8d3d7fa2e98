-- Orders under labels: the one to start from, and how a round keeps it.
--   held_loop           no loop is empty under the labels
--   cut_order           cut to the netlist's nodes
--   filtered_past, filtered_push            a filtered list, whatever stands past its items; with the next member put behind them
--   parts_none, parts_late, parts_rest      none yet; the next is late, or not
--   order_kept          after a round, the late nodes first and then the others
use Prim.Native.Nat.{ℕ, ◌+◌, ◌-◌, ◌≤◌, ◌<◌}
use native.Mathlib.Omega.{arith}
use native.Mathlib.Decide.{dec_lt}
use mathlib.Core.Path.{◌≡◌, refl, sym, subst, ap, ◌∙◌}
use mathlib.Core.List.{List, [], ◌∷◌, ◌++◌}
use lib.ListN.{length, take, length-set, length-append, get_or-append}
use lib.Seq.{set-append_seam, get_or-append-add}
use Rattle.std.proofs.lemmas.List.{get_or-take}
use Rattle.theory.specs.Walk.{Walk, one, more, registers, Loop}
use Rattle.theory.specs.inner.Labels.{Chain, Fits}
use Rattle.theory.proofs.labels.Chains.{chain_sum}
use Rattle.graph.specs.Columns.{at, column_graph}
use Rattle.graph.specs.inner.Sort.{Stands}
use Rattle.graph.specs.inner.Lists.{Filtered}
use Rattle.graph.proofs.Laws.{loop_kinds}
use Rattle.graph.proofs.Fills.{filtered_none, filtered_hit, filtered_miss}
use Rattle.netlist.specs.declared.Netlist.{Netlist}
use Rattle.netlist.specs.Net.{graph_of, regs_of}
use Rattle.netlist.proofs.Run.{fit_wired}
use Rattle.lags.specs.inner.Lags.{Sure}
use Rattle.lags.specs.inner.Rounds.{EmptyUnder, LabelOrder, Held, Lifted, LateBy, OnTime, Parts, Parted}
use Rattle.lags.proofs.Wires.{cut_at, cut_stands, cut_listed}

-- ── The order to start from ─────────────────────────────────────────────────────────────────

module _ (net : Netlist) (lab held : List ℕ) (q : Held net lab held) where
  held_chain : {u v : ℕ} (p : Walk (graph_of net) u v) → registers (at held) p ≡ 0 → Chain (at net.count) (at lab) p
  unfolding Chain registers
  held_chain (one h) z = tt
  held_chain (more e h p) z = ((q e h).1 (omega arith), held_chain p (omega arith))

  -- Along a chain the labels fall by its registers, and where it ends as it began they have not fallen.
  pub held_loop : ¬ Loop (graph_of net) (regs_of net).count → (kind : List ℕ) → ¬ Loop (column_graph net.nodes net.edges kind net.from net.to) (at held)
  held_loop none kind l =
      let o = loop_kinds net.nodes net.edges kind net.kind net.from net.to (at held) l in
      none (record {
        node = o.node;
        walk = o.walk;
        moves = o.moves;
        bare = omega (arith, chain_sum (at net.count) (at lab) o.walk (held_chain o.walk o.bare));
      })

-- Cut to the netlist's nodes it is one too.
pub cut_order : {net : Netlist} {lab order : List ℕ} → LabelOrder net lab order → LabelOrder net lab (take net.nodes order)
cut_order {net} {lab} {order} o = record {
  listed = cut_listed net order o.listed;
  sources_first = λ p e h m q z. cut_stands net order p _ (omega arith) (o.sources_first p e h m (q ∙ cut_at net order p h) z);
}

-- ── Parting ─────────────────────────────────────────────────────────────────────────────────

-- A list is as well filtered, whatever stands past its items.
module _ (Q : ℕ → Type 0) (order : List ℕ) (n : ℕ) (xs : List ℕ) (f : Filtered Q order n xs (length xs)) where
  same_at : (past : List ℕ) (j : ℕ) → j < length xs → at xs j ≡ at (xs ++ past) j
  same_at past j h = sym (get_or-append xs past 0 j h)

  same_stands : (past : List ℕ) (j v : ℕ) → j ≤ length xs → Stands xs j v → Stands (xs ++ past) j v
  same_stands past j v h t = record { place = t.place; within = t.within; holds = sym (same_at past t.place (omega (arith, t.within))) ∙ t.holds }

  filtered_past : (past : List ℕ) → Filtered Q order n (xs ++ past) (length xs)
  filtered_past past = record {
    few = f.few;
    each = λ j h. let k = f.each j h in record {
      place = k.place;
      within = k.within;
      same = k.same ∙ same_at past j h;
      has = subst Q (same_at past j h) k.has;
      before = λ q m y. same_stands past j (at order q) (omega arith) (k.before q m y);
    };
    every = λ p h y. same_stands past (length xs) (at order p) (omega arith) (f.every p h y);
  }

  -- The next member has the property, and is put behind the others.
  filtered_push : Q (at order n) → Filtered Q order (n + 1) (xs ++ at order n ∷ []) (length (xs ++ at order n ∷ []))
  filtered_push q =
      rw (← set-append_seam xs 0 [] (at order n), length-set, length-append)
      (filtered_hit Q order n (xs ++ 0 ∷ []) (length xs) (filtered_past (0 ∷ [])) q (omega (arith, length-append xs (0 ∷ []))))

module _ (order time : List ℕ) (P : ℕ) where
  pub parts_none : Parts order time P 0 [] []
  parts_none = record { late_part = filtered_none _ order []; rest_part = filtered_none _ order []; all = refl }

  module _ (i : ℕ) (late rest : List ℕ) (w : Parts order time P i late rest) where
    pub parts_late : P < at time (at order i) → Parts order time P (i + 1) (late ++ at order i ∷ []) rest
    parts_late h = record {
      late_part = filtered_push (LateBy time P) order i late w.late_part h;
      rest_part = filtered_miss (OnTime time P) order i rest (length rest) w.rest_part (λ z. omega arith);
      all = omega (arith, w.all, length-append late (at order i ∷ []));
    }

    pub parts_rest : at time (at order i) ≤ P → Parts order time P (i + 1) late (rest ++ at order i ∷ [])
    parts_rest h = record {
      late_part = filtered_miss (LateBy time P) order i late (length late) w.late_part (λ z. omega arith);
      rest_part = filtered_push (OnTime time P) order i rest w.rest_part h;
      all = omega (arith, w.all, length-append rest (at order i ∷ []));
    }

-- ── A round ─────────────────────────────────────────────────────────────────────────────────

-- The members of an order that have a property, in another list: a source that has it stands before there too.
module _ (net : Netlist) (lab order : List ℕ) (o : LabelOrder net lab order) (Q : ℕ → Type 0) (xs : List ℕ) (n : ℕ) (f : Filtered Q order net.nodes xs n) where
  part_node : (j : ℕ) → j < n → at xs j < net.nodes
  part_node j h = let t = f.each j h in subst (λ v. v < net.nodes) t.same (o.listed.node t.place t.within)

  part_all : (v : ℕ) → v < net.nodes → Q v → Stands xs n v
  part_all v h k =
      let t = o.listed.every v h in
      subst (Stands xs n) t.holds (f.every t.place t.within (subst Q (sym t.holds) k))

  part_order : (j e : ℕ) → j < n → e < net.edges → at net.to e ≡ at xs j → EmptyUnder net lab e → Q (at net.from e)
      → Stands xs j (at net.from e)
  part_order j e h m q z k =
      let t = f.each j h in
      let s = o.sources_first t.place e t.within m (q ∙ sym t.same) z in
      subst (Stands xs j) s.holds (t.before s.place s.within (subst Q (sym s.holds) k))

-- An edge from u to v that is empty under the new labels. Both late, or neither: it was empty before, so u stood before v, and does so in their part.
-- Only u late: u is in the first part and v in the second. Only v late: the edge would have had fewer than 0 registers.
module _ (net : Netlist) (P : ℕ) (time lab next order new : List ℕ) (s : Sure net) (fits : Fits (graph_of net) (at net.count) (at lab))
    (l : Lifted net.nodes P time lab next) (o : LabelOrder net lab order) (w : Parted order time P net.nodes new) where
  abbrev a : ℕ
  a = length w.late

  abbrev b : ℕ
  b = length w.rest

  -- What stands at a place of the new order.
  stands_at : (p : ℕ) → p < net.nodes → at new p ≡ at (w.late ++ w.rest) p
  stands_at p h = sym (get_or-take net.nodes new p 0 h) ∙ ap (λ xs. at xs p) w.joined

  kept : (p : ℕ) → p < a → at new p ≡ at w.late p
  kept p h = stands_at p (omega (arith, w.parts.all)) ∙ get_or-append w.late w.rest 0 p h

  back : (k : ℕ) → k < b → at new (a + k) ≡ at w.rest k
  back k h = stands_at (a + k) (omega (arith, w.parts.all)) ∙ get_or-append-add w.late w.rest k 0

  late_in : (p v : ℕ) → p ≤ a → Stands w.late p v → Stands new p v
  late_in p v h t = record { place = t.place; within = t.within; holds = kept t.place (omega (arith, t.within)) ∙ t.holds }

  rest_in : (k v : ℕ) → k ≤ b → Stands w.rest k v → Stands new (a + k) v
  rest_in k v h t = record { place = a + t.place; within = omega (arith, t.within); holds = back t.place (omega (arith, t.within)) ∙ t.holds }

  late_first : (p v : ℕ) → a ≤ p → v < net.nodes → P < at time v → Stands new p v
  late_first p v h m k =
      let t = late_in a v (omega arith) (part_all net lab order o (LateBy time P) w.late a w.parts.late_part v m k) in
      record { place = t.place; within = omega (arith, t.within); holds = t.holds }

  -- What holds at every place of the one part and of the other holds at every place.
  each : (R : ℕ → ℕ → Type 0) → ((j : ℕ) → j < a → R j (at w.late j)) → ((j : ℕ) → j < b → R (a + j) (at w.rest j)) → (p : ℕ) → p < net.nodes → R p (at new p)
  each R f g p h = go (dec_lt p a)
    where
      go : Dec (p < a) → R p (at new p)
      go (yes x) = subst (R p) (sym (kept p x)) (f p x)
      go (no x) =
          let j = p - a in
          let y : j < b = omega (arith, w.parts.all) in
          subst (λ q. R q (at new q)) (let z : a + j ≡ p = omega arith in z) (subst (R (a + j)) (sym (back j y)) (g j y))

  module _ (e : ℕ) (m : e < net.edges) (z : EmptyUnder net next e) where
    abbrev u : ℕ
    u = at net.from e

    abbrev v : ℕ
    v = at net.to e

    u_in : u < net.nodes
    u_in = (fit_wired net s.fit).src_in e m

    v_in : v < net.nodes
    v_in = (fit_wired net s.fit).dst_in e m

    before_late : (j : ℕ) → j < a → v ≡ at w.late j → Stands new j u
    before_late j h q = go (dec_lt P (at time u))
      where
        late : P < at time v
        late = subst (λ x. P < at time x) (sym q) (w.parts.late_part.each j h).has

        go : Dec (P < at time u) → Stands new j u
        go (yes k) =
            late_in j u (omega arith) (part_order net lab order o (LateBy time P) w.late a w.parts.late_part j e h m q
            (omega (arith, l.up u u_in k, l.up v v_in late)) k)
        go (no k) = absurd (let y : ⊥ = omega (arith, l.stays u u_in (omega arith), l.up v v_in late, fits e m) in y)

    before_rest : (j : ℕ) → j < b → v ≡ at w.rest j → Stands new (a + j) u
    before_rest j h q = go (dec_lt P (at time u))
      where
        quick : at time v ≤ P
        quick = subst (λ x. at time x ≤ P) (sym q) (w.parts.rest_part.each j h).has

        go : Dec (P < at time u) → Stands new (a + j) u
        go (yes k) = late_first (a + j) u (omega arith) u_in k
        go (no k) =
            let y : at time u ≤ P = omega arith in
            rest_in j u (omega arith) (part_order net lab order o (OnTime time P) w.rest b w.parts.rest_part j e h m q
            (omega (arith, l.stays u u_in y, l.stays v v_in quick)) y)

  pub order_kept : LabelOrder net next new
  order_kept = record {
    listed = record {
      node = each (λ p x. x < net.nodes)
          (part_node net lab order o (LateBy time P) w.late a w.parts.late_part)
          (part_node net lab order o (OnTime time P) w.rest b w.parts.rest_part);
      every = λ x h. every x h (dec_lt P (at time x));
    };
    sources_first = λ p e h m q z. each (λ k x. at net.to e ≡ x → Stands new k (at net.from e)) (before_late e m z) (before_rest e m z) p h q;
  }
    where
      every : (x : ℕ) → x < net.nodes → Dec (P < at time x) → Stands new net.nodes x
      every x h (yes k) = late_first net.nodes x (omega (arith, w.parts.all)) h k
      every x h (no k) =
          subst (λ n. Stands new n x) w.parts.all
          (rest_in b x (omega arith) (part_all net lab order o (OnTime time P) w.rest b w.parts.rest_part x h (omega arith)))

-- The loop over the clocks: what is ready before it, what holds before each clock, and one clock.
--   Ready               the labels of a legal retiming, and the truth words
--   Following           before clock s: the list is right for it, the slots are for the clock before, the ring holds what is needed
--   following_start     before clock 0
--   following_takes     the nodes can be evaluated, one clock or 32
--   following_truths    their truth words are those of the kinds
--   following_next      one clock, or 32, and the list looked through
use Prim.Native.Nat.{ℕ, suc, ◌+◌, ◌*◌, ◌-◌, ◌/◌, ◌%◌, ◌<◌, ◌≤◌}
use native.Mathlib.Omega.{arith}
use mathlib.Core.Path.{◌≡◌, sym, subst}
use mathlib.Core.Logic.{◌⊎◌, inl, inr, ⊎_elim}
use mathlib.Core.List.{List}
use lib.ListN.{length, take}
use Rattle.graph.specs.Columns.{at}
use Rattle.graph.specs.inner.Sort.{Ordered}
use Rattle.graph.specs.inner.Lists.{Filtered}
use Rattle.gates.specs.inner.Gates.{Reckons, Evaluable, Truths}
use Rattle.moves.specs.inner.Labels.{Labelled}
use Rattle.starts.specs.declared.wiring.Wiring.{Wiring}
use Rattle.starts.specs.inner.Ring.{row, AskedAt, NothingYet, Slots}
use Rattle.starts.specs.inner.Ahead.{Strides, Taken}
use Rattle.starts.specs.inner.Wired.{ListSlots}
use Rattle.starts.proofs.Slots.{slot_in}
use Rattle.starts.proofs.Wired.{wired, shown_rows}
use Rattle.starts.proofs.Listed.{Listed, listed_start, listed_later, refreshed}
use Rattle.starts.proofs.Held.{Held, held_start}
use Rattle.starts.proofs.Clock.{held_next}
use Rattle.starts.proofs.Turned.{strides_alone}
use Rattle.starts.proofs.Block.{held_block}

pub record Ready (w : Wiring) (lab truth : List ℕ) : Type 0 where
  pub labelled : Labelled w.net.now lab
  pub rows : (length w.ins.list ≡ 1024) × (length w.ins.begin ≡ 513) × (length truth ≡ 512)
  pub truths : (v : ℕ) → v < w.net.now.nodes → Reckons (at w.net.now.kind v) (at w.ins.begin (suc v) - at w.ins.begin v) (at truth v)

pub record Following (w : Wiring) (lab truth : List ℕ) (s : ℕ) (list slots ring : List ℕ) : Type 0 where
  pub ready : Ready w lab truth
  pub listed : Listed w.net.now lab s list
  pub near : (i : ℕ) → i < length list → s / 32 * 32 + at lab (at list i) < 16384
  pub turned : (t : ℕ) → 32 ≤ t → t + 1 ≡ s → 0 < s % 32 → ListSlots w list (length list) t slots
  pub held : Held w.net.now lab s ring

module _ (w : Wiring) (lab truth : List ℕ) where
  pub following_start : Ready w lab truth → (order list slots ring : List ℕ) → length order ≡ 512 → length ring ≡ 32770 → NothingYet ring
      → (let net = w.net.now in Ordered net.nodes net.edges net.from net.to net.count order)
      → (let all = take w.net.now.nodes order in Filtered (AskedAt lab 0) all (length all) list (length list))
      → Following w lab truth 0 list slots ring
  following_start ready order list slots ring order_rows ring_rows e o kept =
      let net = w.net.now in
      let all = take net.nodes order in
      let f = refreshed net lab 0 all list (listed_start net lab order (omega (arith, w.few_nodes, order_rows)) o) (λ i l z. absurd (let y : ⊥ = omega arith in y)) (inr kept) in
      record {
        ready = ready;
        listed = f.listed;
        near = f.near;
        turned = λ t l z d. absurd (let y : ⊥ = omega arith in y);
        held = held_start net lab ring ring_rows e;
      }

  module _ (s : ℕ) (list slots ring : List ℕ) (f : Following w lab truth s list slots ring) where
    in_nodes : (i : ℕ) → i < length list → at list i < w.net.now.nodes
    in_nodes = f.listed.nodes_only

    pub following_truths : Truths w.net.now.kind list truth w.ins.begin (length list)
    following_truths i l = f.ready.truths (at list i) (in_nodes i l)

    module _ (slots' : List ℕ) (slot_rows : length slots' ≡ 1024) (right : ListSlots w list (length list) s slots') where
      -- Into the row that begins at `base`.
      evaluable : (base : ℕ) → base ≤ 32256 → Evaluable list truth w.ins.begin slots' (length list) base ring
      evaluable base b = record {
        in_node = omega arith;
        placed = λ i l.
            let en = wired w in
            let net = w.net.now in
            let v = in_nodes i l in
            record {
              in_truth = omega (arith, v, w.few_nodes, f.ready.rows);
              in_first = omega (arith, v, w.few_nodes, f.ready.rows);
              in_size = omega (arith, v, w.few_nodes, f.held.size);
              up = en.rising (at list i) v;
              in_list = omega (arith, en.within (at list i) v, w.few_edges, slot_rows);
              narrow = (f.ready.truths (at list i) v).narrow;
              signals = λ j a b.
                  let e = at w.ins.list j in
                  let k = shown_rows w e (en.edge j (omega (arith, en.within (at list i) v))) in
                  omega (arith, right i l j a b, slot_in (at net.from e) (at net.count e) (at net.start e) s k.source, f.held.size);
            };
        bits = f.held.bits;
      }

      module _ (many : ℕ) (strides : Strides w.net.now list s many) where
        pub following_takes : Evaluable list truth w.ins.begin slots' (length list) (row s) ring × (1 < many → Evaluable list truth w.ins.begin slots' (length list) (row s + 15872) ring)
        following_takes = (
          evaluable (row s) (omega arith),
          λ l. evaluable (row s + 15872) (⊎_elim (λ a. absurd (let y : ⊥ = omega arith in y)) (λ a. omega (arith, a.2)) strides),
        )

        module _ (ring' : List ℕ) (taken : Taken w.net.now.kind list w.ins.begin slots' (row s) many ring ring') where
          held_later : Strides w.net.now list s many → Taken w.net.now.kind list w.ins.begin slots' (row s) many ring ring' → Held w.net.now lab (s + many) ring'
          held_later (inl a) (inr b) = absurd (let y : ⊥ = omega arith in y)
          held_later (inr a) (inl b) = absurd (let y : ⊥ = omega arith in y)
          held_later (inl a) (inl b) =
              subst (λ k. Held w.net.now lab (s + k) ring') (sym a)
              (held_next w.net.now lab w.steppable f.ready.labelled w.ins.list w.ins.begin (wired w) s list f.listed f.near slots' (omega (arith, w.few_edges, f.ready.rows)) (omega (arith, w.few_edges, slot_rows)) right ring ring' f.held b.1)
          held_later (inr a) (inr b) =
              subst (λ k. Held w.net.now lab (s + k) ring') (sym a.0)
              (held_block w.net.now lab w.steppable f.ready.labelled w.ins.list w.ins.begin (wired w) s a.1 a.2 list f.listed (λ i l. omega (arith, f.near i l, a.2)) a.3 slots'
              (omega (arith, w.few_edges, f.ready.rows)) (omega (arith, w.few_edges, slot_rows)) right (shown_rows w) ring ring' f.held b.1)

          -- After 32 clocks the list is looked through, and the slots are found anew.
          pub following_next : (list' : List ℕ)
              → ((0 < (s + many) % 32) × (list' ≡ list)) ⊎ Filtered (AskedAt lab (s + many)) list (length list) list' (length list') → Following w lab truth (s + many) list' slots' ring'
          following_next list' kept =
              let fresh = refreshed w.net.now lab (s + many) list list' (listed_later w.net.now lab s list many f.listed) (λ i l z. omega (arith, f.near i l, strides_alone strides z)) kept in
              record {
                ready = f.ready;
                listed = fresh.listed;
                near = fresh.near;
                turned = λ t a z d i l.
                    let net = w.net.now in
                    let k = fresh.from i l in
                    let q : s ≡ t = omega (arith, strides_alone strides d) in
                    subst (λ x. Slots w.ins.list net x (at w.ins.begin (at list' i)) (at w.ins.begin (suc (at list' i))) slots') q
                    (subst (λ v. Slots w.ins.list net s (at w.ins.begin v) (at w.ins.begin (suc v)) slots') k.2 (right k.0 k.1));
                held = held_later strides taken;
              }

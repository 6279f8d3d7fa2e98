-- The cells, numbered one by one.
--   cut_lags, lags_cut  no lag of the labels of the nodes, cut out of a longer list, is above so many clocks: to there and back
--   numbered_miss, numbered_hit    one place further: without a cell, with a cell
--   numbered_clock      a clock is done
use Prim.Native.Nat.{ℕ, ◌+◌, ◌*◌, ◌≤◌, ◌<◌}
use native.Mathlib.Omega.{arith}
use native.Mathlib.Decide.{ℕ_discrete}
use mathlib.Core.Path.{◌≡◌, refl, sym, subst, ap, ◌∙◌}
use mathlib.Core.Logic.{◌⊎◌, inl, inr, ⊎_elim}
use mathlib.Core.List.{List, [], ◌∷◌, ◌++◌}
use lib.ListN.{length, take, set, length-set, length-append, get_or-append}
use lib.Seq.{get_or-take, get_or_at, get_or-set_same, get_or-set_other}
use Rattle.std.proofs.lemmas.List.{length-take-le}
use Rattle.theory.specs.Lag.{up}
use Rattle.lags.specs.inner.Lags.{lag_of}
use Rattle.graph.specs.Columns.{at}
use Rattle.graph.specs.inner.Sort.{Stands}
use Rattle.choose.specs.inner.Numbers.{lag_at, LagsBelow, Arranged, EarlierCell, CellNumbered, CellsNumbered}
use Rattle.choose.proofs.Arranged.{every_node}

lag_cut : (lab : List ℕ) (nodes v : ℕ) → v < nodes → lag_at (take nodes lab) v ≡ lag_at lab v
lag_cut lab nodes v l = ap (λ x. up (lag_of x)) (get_or-take nodes lab v 0 l)

module _ {lab : List ℕ} {nodes : ℕ} (h : nodes ≤ length lab) where
  pub cut_lags : {clocks : ℕ} → LagsBelow lab nodes clocks → LagsBelow (take nodes lab) (length (take nodes lab)) clocks
  cut_lags s = rw (length-take-le nodes lab h) (record { few = s.few; low = λ v l. omega (arith, lag_cut lab nodes v l, s.low v l) })

  pub lags_cut : {clocks : ℕ} → LagsBelow (take nodes lab) (length (take nodes lab)) clocks → LagsBelow lab nodes clocks
  lags_cut s = record { few = s.few; low = λ v l. omega (arith, lag_cut lab nodes v l, s.low v (rw (length-take-le nodes lab h) l)) }

module _ (lag : ℕ → ℕ) (order : List ℕ) where
  stands_more : (p q v : ℕ) → p ≤ q → Stands order p v → Stands order q v
  stands_more p q v h s = record { place = s.place; within = omega (arith, s.within); holds = s.holds }

  -- One place further: what comes before it came before, or is its node.
  before_split : (t p v s : ℕ) → EarlierCell order t (p + 1) v s → EarlierCell order t p v s ⊎ ((s ≡ t) × (at order p ≡ v))
  before_split t p v s = ⊎_elim (λ (k : s < t). inl (inl k)) (λ (k : (s ≡ t) × Stands order (p + 1) v). go k (ℕ_discrete k.1.place p))
    where
      go : (k : (s ≡ t) × Stands order (p + 1) v) → Dec (k.1.place ≡ p) → EarlierCell order t p v s ⊎ ((s ≡ t) × (at order p ≡ v))
      go k (yes z) = inr (k.0, ap (at order) (sym z) ∙ k.1.holds)
      go k (no z) = inl (inr (k.0, record { place = k.1.place; within = omega (arith, k.1.within); holds = k.1.holds }))

  -- What comes before a cell that is done comes before the place that is next.
  before_done : (t p c q v s : ℕ) → (c < t) ⊎ ((c ≡ t) × (q < p)) → EarlierCell order c q v s → EarlierCell order t p v s
  before_done t p c q v s d =
      ⊎_elim
      (λ (k : s < c). inl (let z : s < t = ⊎_elim (λ (a : c < t). omega arith) (λ (a : (c ≡ t) × (q < p)). omega arith) d in z))
      (λ (k : (s ≡ c) × Stands order q v). ⊎_elim (λ (a : c < t). inl (let z : s < t = omega arith in z)) (λ (a : (c ≡ t) × (q < p)). inr (k.0 ∙ a.0, stands_more q p v (omega arith) k.1)) d)

  done_more : (t p c q : ℕ) → (c < t) ⊎ ((c ≡ t) × (q < p)) → (c < t) ⊎ ((c ≡ t) × (q < p + 1))
  done_more t p c q = ⊎_elim (λ (a : c < t). inl a) (λ (a : (c ≡ t) × (q < p)). inr (a.0, (let z : q < p + 1 = omega arith in z)))

  module _ (t p : ℕ) (id code : List ℕ) (s : CellsNumbered lag order t p id code) where
    pub numbered_miss : ¬ (t < lag (at order p)) → CellsNumbered lag order t (p + 1) id code
    numbered_miss h = record {
      few = omega (arith, s.few);
      id_rows = s.id_rows;
      inside = λ v k hv hk b. ⊎_elim (λ (a : EarlierCell order t p v k). s.inside v k hv hk a)
          (λ (a : (k ≡ t) × (at order p ≡ v)). absurd (h (rw (← a.0, a.1) hk))) (before_split t p v k b);
      back = λ v k hv hk b. ⊎_elim (λ (a : EarlierCell order t p v k). s.back v k hv hk a)
          (λ (a : (k ≡ t) × (at order p ≡ v)). absurd (h (rw (← a.0, a.1) hk))) (before_split t p v k b);
      each = λ i l.
          let c = s.each i l in
          record { clock = c.clock; place = c.place; within = c.within; below = c.below; coded = c.coded; number = c.number; done = done_more t p c.clock c.place c.done; earlier = c.earlier };
    }

    module _ (o : Arranged order) (low : (v : ℕ) → v < length order → lag v ≤ 24) (hp : p < length order) (ht : t < lag (at order p)) where
      spot : ℕ
      spot = at order p * 32 + t

      spot_low : spot < 16384
      unfolding spot
      spot_low = omega (arith, o.few, o.nodes_only p hp, low (at order p) (o.nodes_only p hp))

      -- What came before has another code.
      fresh : (v k : ℕ) → v < length order → k < lag v → EarlierCell order t p v k → ¬ (v * 32 + k ≡ spot)
      unfolding spot
      fresh v k hv hk b q =
          let a : v ≡ at order p = omega (arith, low v hv, low (at order p) (o.nodes_only p hp)) in
          let d : k ≡ t = omega (arith, low v hv, low (at order p) (o.nodes_only p hp)) in
          ⊎_elim (λ (x : k < t). let z : ⊥ = omega arith in z) (λ (x : (k ≡ t) × Stands order p v). o.once x.1.place p x.1.within hp (x.1.holds ∙ a)) b

      id' : List ℕ
      id' = set id spot (length code)

      code' : List ℕ
      code' = code ++ spot ∷ []

      one_more : length code' ≡ length code + 1
      unfolding code'
      one_more = length-append code (spot ∷ [])

      at_spot : at id' spot ≡ length code
      unfolding id'
      at_spot = get_or-set_same id spot (length code) 0 (omega (arith, spot_low, s.id_rows))

      kept : (v k : ℕ) → v < length order → k < lag v → EarlierCell order t p v k → at id' (v * 32 + k) ≡ at id (v * 32 + k)
      unfolding id'
      kept v k hv hk b = get_or-set_other id spot (v * 32 + k) (length code) 0 (fresh v k hv hk b)

      in_more : (v k : ℕ) → v < length order → k < lag v → EarlierCell order t p v k → at id' (v * 32 + k) < length code
      in_more v k hv hk b = subst (λ x. x < length code) (sym (kept v k hv hk b)) (s.inside v k hv hk b)

      at_last : at code' (length code) ≡ spot
      unfolding code'
      at_last = get_or_at code spot [] 0 (length code) refl

      back_old : (v k : ℕ) → v < length order → k < lag v → EarlierCell order t p v k → at code' (at id' (v * 32 + k)) ≡ v * 32 + k
      unfolding code'
      back_old v k hv hk b =
          ap (at code') (kept v k hv hk b)
          ∙ get_or-append code _ 0 (at id (v * 32 + k)) (s.inside v k hv hk b)
          ∙ s.back v k hv hk b

      new : CellNumbered lag order id' code' t (p + 1) (length code)
      unfolding code' spot
      new = record {
        clock = t;
        place = p;
        within = hp;
        below = ht;
        coded = at_last;
        number = at_spot;
        done = inr (refl, (let z : p < p + 1 = omega arith in z));
        earlier = in_more;
      }

      old : (i : ℕ) → i < length code → CellNumbered lag order id' code' t (p + 1) i
      unfolding code'
      old i l =
          let c = s.each i l in
          let mine : EarlierCell order t p (at order c.place) c.clock = before_mine c.clock c.place c.done in
          record {
            clock = c.clock;
            place = c.place;
            within = c.within;
            below = c.below;
            coded = get_or-append code _ 0 i l ∙ c.coded;
            number = kept (at order c.place) c.clock (o.nodes_only c.place c.within) c.below mine ∙ c.number;
            done = done_more t p c.clock c.place c.done;
            earlier = λ v k hv hk b. subst (λ x. x < i) (sym (kept v k hv hk (before_done t p c.clock c.place v k c.done b))) (c.earlier v k hv hk b);
          }
        where
          before_mine : (c q : ℕ) → (c < t) ⊎ ((c ≡ t) × (q < p)) → EarlierCell order t p (at order q) c
          before_mine c q = ⊎_elim (λ (a : c < t). inl a) (λ (a : (c ≡ t) × (q < p)). inr (a.0, record { place = q; within = a.1; holds = refl }))

      pub numbered_hit : CellsNumbered lag order t (p + 1) (set id (at order p * 32 + t) (length code)) (code ++ (at order p * 32 + t) ∷ [])
      unfolding id' code' spot
      numbered_hit = record {
        few = omega (arith, s.few, one_more);
        id_rows = length-set id spot (length code) ∙ s.id_rows;
        inside = λ v k hv hk b. rw one_more (⊎_elim (λ (a : EarlierCell order t p v k). (let z : at id' (v * 32 + k) < length code + 1 = omega (arith, in_more v k hv hk a) in z))
            (λ (a : (k ≡ t) × (at order p ≡ v)). subst (λ x. at id' x < length code + 1) (let y : spot ≡ v * 32 + k = omega (arith, a.0, a.1) in y) (let z : at id' spot < length code + 1 = omega (arith, at_spot) in z)) (before_split t p v k b));
        back = λ v k hv hk b. ⊎_elim (λ (a : EarlierCell order t p v k). back_old v k hv hk a)
            (λ (a : (k ≡ t) × (at order p ≡ v)). subst (λ x. at code' (at id' x) ≡ x) (let y : spot ≡ v * 32 + k = omega (arith, a.0, a.1) in y) (ap (at code') at_spot ∙ at_last)) (before_split t p v k b);
        each = λ i l. pick i (rw one_more at l) (ℕ_discrete i (length code));
      }
        where
          pick : (i : ℕ) → i < length code + 1 → Dec (i ≡ length code) → CellNumbered lag order id' code' t (p + 1) i
          pick i l (yes e) = subst (CellNumbered lag order id' code' t (p + 1)) (sym e) new
          pick i l (no e) = old i (omega arith)

  pub numbered_clock : (t : ℕ) (id code : List ℕ) → Arranged order → CellsNumbered lag order t (length order) id code → CellsNumbered lag order (t + 1) 0 id code
  numbered_clock t id code o s = record {
    few = omega (arith, s.few, o.few);
    id_rows = s.id_rows;
    inside = λ v k hv hk b. s.inside v k hv hk (go v k hv (⊎_elim (λ (a : k < t + 1). a) (λ (a : (k ≡ t + 1) × Stands order 0 v). absurd (let z : ⊥ = omega (arith, a.1.within) in z)) b) (ℕ_discrete k t));
    back = λ v k hv hk b. s.back v k hv hk (go v k hv (⊎_elim (λ (a : k < t + 1). a) (λ (a : (k ≡ t + 1) × Stands order 0 v). absurd (let z : ⊥ = omega (arith, a.1.within) in z)) b) (ℕ_discrete k t));
    each = λ i l.
        let c = s.each i l in
        record {
          clock = c.clock;
          place = c.place;
          within = c.within;
          below = c.below;
          coded = c.coded;
          number = c.number;
          done = inl (⊎_elim (λ (a : c.clock < t). (let z : c.clock < t + 1 = omega arith in z)) (λ (a : (c.clock ≡ t) × (c.place < length order)). (let z : c.clock < t + 1 = omega arith in z)) c.done);
          earlier = c.earlier;
        };
  }
    where
      go : (v k : ℕ) → v < length order → k < t + 1 → Dec (k ≡ t) → EarlierCell order t (length order) v k
      go v k hv l (yes e) = inr (e, every_node order o v hv)
      go v k hv l (no e) = inl (let z : k < t = omega arith in z)

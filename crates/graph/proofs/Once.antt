-- Lists without repeats, and marks for their members.
--   once_room           k different nodes below n, and one more: k is below n
--   once_few            no more different nodes than there are
--   once_whole          n different nodes below n are all of them
--   left_out            fewer than n places leave out a number below n
--   listed_none         no node yet
--   listed_room         a node without a mark: there is room for it
--   listed_more         it joins the list
use Prim.Native.Nat.{ℕ, zero, suc, ◌+◌, ◌≤◌, ◌<◌}
use native.Mathlib.Omega.{arith}
use native.Mathlib.Decide.{ℕ_discrete, dec_lt}
use mathlib.Core.Path.{◌≡◌, sym, ap, ◌∙◌}
use mathlib.Core.List.{List}
use mathlib.Core.Bool.{Bool, true, false}
use Rattle.std.proofs.lemmas.Bool.{true≢false}
use mathlib.Core.Logic.{◌⊎◌, inl, inr, ⊎_elim}
use lib.ListN.{length, set}
use lib.Seq.{get_or-set_same, get_or-set_other}
use Rattle.theory.proofs.numbers.Find.{any, all?, not?}
use Rattle.theory.proofs.numbers.Pigeon.{no_injection, cons}
use Rattle.graph.specs.Columns.{at, flag}
use Rattle.graph.specs.inner.Sort.{Stands}
use Rattle.graph.specs.inner.Lists.{Once, Listed}
use Rattle.graph.proofs.Sets.{set_stands}
use Rattle.graph.proofs.Fills.{fill_with}

-- Else the first n of them and the one more are n + 1 different numbers below n.
pub once_room : (xs : List ℕ) (k n v : ℕ) → Once xs k → ((p : ℕ) → p < k → at xs p < n) → v < n → ((p : ℕ) → p < k → ¬ (at xs p ≡ v)) → k < n
once_room xs k n v once inside h other = go (dec_lt k n)
  where
    low : n ≤ k → (i : ℕ) → i ≤ n → cons v (at xs) i < n
    low m zero l = h
    low m (suc i) l = inside i (omega arith)

    differ : n ≤ k → (i j : ℕ) → i < j → j ≤ n → ¬ (cons v (at xs) i ≡ cons v (at xs) j)
    differ m i zero l r = absurd (let z : ⊥ = omega arith in z)
    differ m zero (suc j) l r = λ e. other j (omega arith) (sym e)
    differ m (suc i) (suc j) l r = once i j (omega arith) (omega arith)

    go : Dec (k < n) → k < n
    go (yes l) = l
    go (no l) = absurd (no_injection n (cons v (at xs)) (low (omega arith)) (differ (omega arith)))

pub once_few : (xs : List ℕ) (k n : ℕ) → Once xs k → ((p : ℕ) → p < k → at xs p < n) → k ≤ n
once_few xs zero n once inside = omega arith
once_few xs (suc k) n once inside =
    once_room xs k n (at xs k) (λ p q l h. once p q l (omega arith)) (λ p h. inside p (omega arith)) (inside k (omega arith)) (λ p h. once p k h (omega arith))

pub once_whole : (xs : List ℕ) (n v : ℕ) → Once xs n → ((p : ℕ) → p < n → at xs p < n) → v < n → Stands xs n v
once_whole xs n v once inside h =
    ⊎_elim
    (λ r. record { place = r.0; within = r.1; holds = r.2 })
    (λ none. absurd (let z : ⊥ = omega (arith, once_room xs n n v once inside h none) in z))
    (any n (λ p l. ℕ_discrete (at xs p) v))

-- Else each number has its own place.
pub left_out : (xs : List ℕ) (k n : ℕ) → k < n → (v : ℕ) × (v < n) × ((p : ℕ) → p < k → ¬ (at xs p ≡ v))
left_out xs k n h =
    ⊎_elim (λ r. r) (λ none. absurd (no_injection k place (λ v l. (found none v (omega arith)).0) (λ u v l m. differ none u v l m)))
    (any n (λ v l. all? k (λ p m. not? (ℕ_discrete (at xs p) v))))
  where
    place : ℕ → ℕ
    place v = ⊎_elim (λ r. r.0) (λ none. 0) (any k (λ p m. ℕ_discrete (at xs p) v))

    found : ((v : ℕ) → v < n → ¬ ((p : ℕ) → p < k → ¬ (at xs p ≡ v))) → (v : ℕ) → v < n → (place v < k) × (at xs (place v) ≡ v)
    found none v l = go (any k (λ p m. ℕ_discrete (at xs p) v))
      where
        go : (f : ((p : ℕ) × (p < k) × (at xs p ≡ v)) ⊎ ((p : ℕ) → p < k → ¬ (at xs p ≡ v)))
            → (⊎_elim (λ r. r.0) (λ none. 0) f < k) × (at xs (⊎_elim (λ r. r.0) (λ none. 0) f) ≡ v)
        go (inl r) = (r.1, r.2)
        go (inr r) = absurd (none v l r)

    differ : ((v : ℕ) → v < n → ¬ ((p : ℕ) → p < k → ¬ (at xs p ≡ v))) → (u v : ℕ) → u < v → v ≤ k → ¬ (place u ≡ place v)
    differ none u v l m e =
        let q : u ≡ v = sym (found none u (omega arith)).1 ∙ ap (at xs) e ∙ (found none v (omega arith)).1 in
        omega arith

pub listed_none : (nodes : ℕ) (list : List ℕ) (mark : List Bool) → ((v : ℕ) → v < nodes → flag mark v ≡ false) → Listed nodes 0 list mark
listed_none nodes list mark bare = record {
  nodes_only = λ p h. absurd (let z : ⊥ = omega arith in z);
  once = λ p q l h. absurd (let z : ⊥ = omega arith in z);
  marked = λ p h. absurd (let z : ⊥ = omega arith in z);
  stands = λ v h z. absurd (true≢false (sym z ∙ bare v h));
}

module _ (nodes n : ℕ) (list : List ℕ) (mark : List Bool) (s : Listed nodes n list mark) (v : ℕ) (h : v < nodes) (bare : flag mark v ≡ false) where
  other : (p : ℕ) → p < n → ¬ (at list p ≡ v)
  other p l e = true≢false (sym (s.marked p l) ∙ ap (flag mark) e ∙ bare)

  pub listed_room : n < nodes
  listed_room = once_room list n nodes v s.once s.nodes_only h other

  pub listed_more : n < length list → v < length mark → Listed nodes (n + 1) (set list n v) (set mark v true)
  listed_more a b = record {
    nodes_only = fill_with (λ p x. x < nodes) list n v a h s.nodes_only;
    once = λ p q l m. differ p q l (ℕ_discrete q n) m;
    marked = fill_with (λ p x. flag (set mark v true) x ≡ true) list n v a (get_or-set_same mark v true false b) (λ p l. get_or-set_other mark v (at list p) true false (other p l) ∙ s.marked p l);
    stands = λ w l z. one w l z (ℕ_discrete w v);
  }
    where
      new : List ℕ
      new = set list n v

      differ : (p q : ℕ) → p < q → Dec (q ≡ n) → q < n + 1 → ¬ (at new p ≡ at new q)
      differ p q l (yes e) m = λ i.
          other p (omega arith) (sym (get_or-set_other list n p v 0 (let z : ¬ (p ≡ n) = λ y. omega arith in z)) ∙ i ∙ ap (at new) e ∙ get_or-set_same list n v 0 a)
      differ p q l (no e) m = λ i.
          s.once p q l (omega arith) (sym (get_or-set_other list n p v 0 (let z : ¬ (p ≡ n) = λ y. omega arith in z)) ∙ i ∙ get_or-set_other list n q v 0 e)

      one : (w : ℕ) → w < nodes → flag (set mark v true) w ≡ true → Dec (w ≡ v) → Stands new (n + 1) w
      one w l z (yes e) = record { place = n; within = omega arith; holds = get_or-set_same list n v 0 a ∙ sym e }
      one w l z (no e) =
          let t = set_stands list n v n w (omega arith) (s.stands w l (sym (get_or-set_other mark v w true false e) ∙ z)) in
          record { place = t.place; within = omega (arith, t.within); holds = t.holds }

-- An order that has each node has it once.
--   ordered_arranged    an evaluation order has each node once
--   every_node          and as it has no more places than nodes, it has every node
use Prim.Native.Nat.{ℕ, zero, suc, ◌≤◌, ◌<◌}
use native.Mathlib.Omega.{arith}
use native.Mathlib.Decide.{ℕ_discrete, dec_lt}
use mathlib.Core.Path.{◌≡◌, refl, sym, subst, ap, ◌∙◌}
use mathlib.Core.Logic.{◌⊎◌, inl, inr, ⊎_elim}
use mathlib.Core.List.{List}
use lib.ListN.{length}
use Rattle.theory.proofs.numbers.Pigeon.{no_injection}
use Rattle.graph.specs.Columns.{at}
use Rattle.graph.specs.inner.Sort.{Stands, Ordered}
use Rattle.choose.specs.inner.Numbers.{Arranged}

-- Each node has a place, so no place is left for a second.
module _ (order : List ℕ) (nodes : ℕ) (every : (v : ℕ) → v < nodes → Stands order nodes v) where
  spare_place : (o : ℕ) (v : ℕ) → Dec (v < nodes) → ℕ
  spare_place o v (yes h) = (every v h).place
  spare_place o v (no h) = o

  spare : ℕ → ℕ → ℕ
  spare o v = spare_place o v (dec_lt v nodes)

  spare_in : (o v : ℕ) → v < nodes → (spare o v < nodes) × (at order (spare o v) ≡ v)
  unfolding spare spare_place
  spare_in o v h = go (dec_lt v nodes)
    where
      go : (d : Dec (v < nodes)) → (spare_place o v d < nodes) × (at order (spare_place o v d) ≡ v)
      go (yes k) = ((every v k).within, (every v k).holds)
      go (no k) = absurd (k h)

  spare_out : (o : ℕ) → spare o nodes ≡ o
  unfolding spare spare_place
  spare_out o = go (dec_lt nodes nodes)
    where
      go : (d : Dec (nodes < nodes)) → spare_place o nodes d ≡ o
      go (yes k) = absurd (let z : ⊥ = omega arith in z)
      go (no k) = refl

  -- A place that is not the one that its node has.
  no_spare : (o : ℕ) → o < nodes → ((v : ℕ) → v < nodes → ¬ (spare o v ≡ o)) → ⊥
  no_spare o h other =
      no_injection nodes (spare o)
      (λ i l. go i l (ℕ_discrete i nodes))
      (λ i j l m q. two i j l m q (ℕ_discrete j nodes))
    where
      go : (i : ℕ) → i ≤ nodes → Dec (i ≡ nodes) → spare o i < nodes
      go i l (yes z) = subst (λ x. spare o x < nodes) (sym z) (subst (λ x. x < nodes) (sym (spare_out o)) h)
      go i l (no z) = (spare_in o i (omega arith)).0

      two : (i j : ℕ) → i < j → j ≤ nodes → spare o i ≡ spare o j → Dec (j ≡ nodes) → ⊥
      two i j l m q (yes z) = other i (omega arith) (q ∙ ap (spare o) z ∙ spare_out o)
      two i j l m q (no z) =
          let e : i ≡ j = sym (spare_in o i (omega arith)).1 ∙ ap (at order) q ∙ (spare_in o j (omega arith)).1 in
          omega arith

  spare_same : (o u v : ℕ) → v < nodes → spare o v ≡ spare u v
  unfolding spare spare_place
  spare_same o u v h = go (dec_lt v nodes)
    where
      go : (d : Dec (v < nodes)) → spare_place o v d ≡ spare_place u v d
      go (yes k) = refl
      go (no k) = absurd (k h)

  place_once : (p q : ℕ) → p < q → q < nodes → at order q < nodes → ¬ (at order p ≡ at order q)
  place_once p q h l k e = go (ℕ_discrete (spare q (at order q)) q)
    where
      back : (o : ℕ) → at order o ≡ at order q → ¬ (spare o (at order q) ≡ o) → (u : ℕ) → u < nodes → ¬ (spare o u ≡ o)
      back o a b u m z =
          let w : u ≡ at order q = sym (spare_in o u m).1 ∙ ap (at order) z ∙ a in
          b (ap (spare o) (sym w) ∙ z)

      go : Dec (spare q (at order q) ≡ q) → ⊥
      go (yes z) = no_spare p (omega arith) (back p e (λ y. let n : p ≡ q = sym y ∙ spare_same p q (at order q) k ∙ z in omega arith))
      go (no z) = no_spare q l (back q refl z)

pub ordered_arranged : (edges : ℕ) (from to count order : List ℕ) → length order ≤ 512 → Ordered (length order) edges from to count order → Arranged order
ordered_arranged edges from to count order few s = record {
  few = few;
  nodes_only = s.nodes_only;
  once = λ p q h l. place_once order (length order) s.every_node p q h l (s.nodes_only q l);
}

-- A place of a node, or that none of the first n places has it: one place further, and of all.
stands_more : (order : List ℕ) (v n : ℕ) → Dec (at order n ≡ v) → Stands order n v ⊎ ((p : ℕ) → p < n → ¬ (at order p ≡ v))
    → Stands order (suc n) v ⊎ ((p : ℕ) → p < suc n → ¬ (at order p ≡ v))
stands_more order v n (yes z) s = inl (record { place = n; within = omega arith; holds = z })
stands_more order v n (no z) s =
    ⊎_elim
    (λ (o : Stands order n v). inl (record { place = o.place; within = omega (arith, o.within); holds = o.holds }))
    (λ (k : (p : ℕ) → p < n → ¬ (at order p ≡ v)). inr (λ p h. last k p h (ℕ_discrete p n)))
    s
  where
    last : ((p : ℕ) → p < n → ¬ (at order p ≡ v)) → (p : ℕ) → p < suc n → Dec (p ≡ n) → ¬ (at order p ≡ v)
    last k p h (yes e) = subst (λ q. ¬ (at order q ≡ v)) (sym e) z
    last k p h (no e) = k p (omega arith)

stands_or : (order : List ℕ) (v n : ℕ) → Stands order n v ⊎ ((p : ℕ) → p < n → ¬ (at order p ≡ v))
stands_or order v zero = inr (λ p h. absurd (let z : ⊥ = omega arith in z))
stands_or order v (suc n) = stands_more order v n (ℕ_discrete (at order n) v) (stands_or order v n)

-- A node without a place would be one node more than there are, each with a number below their count.
module _ (order : List ℕ) (o : Arranged order) (v : ℕ) (h : v < length order) where
  numbers : (p : ℕ) → Dec (p ≡ length order) → ℕ
  numbers p (yes _) = v
  numbers p (no _) = at order p

  none_left : ((p : ℕ) → p < length order → ¬ (at order p ≡ v)) → ⊥
  unfolding numbers
  none_left other =
      no_injection (length order) (λ p. numbers p (ℕ_discrete p (length order)))
      (λ p l. low p l (ℕ_discrete p (length order)))
      (λ p q l m. two p q l m (ℕ_discrete p (length order)) (ℕ_discrete q (length order)))
    where
      low : (p : ℕ) → p ≤ length order → (d : Dec (p ≡ length order)) → numbers p d < length order
      low p l (yes z) = h
      low p l (no z) = o.nodes_only p (omega arith)

      two : (p q : ℕ) → p < q → q ≤ length order → (d : Dec (p ≡ length order)) (e : Dec (q ≡ length order)) → ¬ (numbers p d ≡ numbers q e)
      two p q l m (yes z) e = absurd (let y : ⊥ = omega arith in y)
      two p q l m (no z) (yes w) = other p (omega arith)
      two p q l m (no z) (no w) = o.once p q l (omega arith)

  pub every_node : Stands order (length order) v
  every_node = ⊎_elim (λ (s : Stands order (length order) v). s) (λ (k : (p : ℕ) → p < length order → ¬ (at order p ≡ v)). absurd (none_left k)) (stands_or order v (length order))

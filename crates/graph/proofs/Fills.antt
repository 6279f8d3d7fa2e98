-- Lists that loops fill, one store a turn.
--   fill_with           from the front: one element further, whatever is said of each
--   fill_more           so where each is f of its place
--   filtered_none, filtered_hit, filtered_miss    with the members of another list that have a property: none yet; the next has it, or not
use Prim.Native.Nat.{ℕ, suc, ◌+◌, ◌<◌}
use native.Mathlib.Omega.{arith}
use native.Mathlib.Numerals.{add-one}
use native.Mathlib.Decide.{ℕ_discrete}
use mathlib.Core.Path.{◌≡◌, sym, subst, ap, ◌∙◌}
use mathlib.Core.List.{List}
use lib.ListN.{length, set}
use lib.Seq.{get_or-set_same, get_or-set_other}
use Rattle.graph.specs.Columns.{at}
use Rattle.graph.specs.inner.Sort.{Stands}
use Rattle.graph.specs.inner.Lists.{FilteredAt, Filtered}
use Rattle.graph.proofs.Sets.{set_stands}

-- ── From the front ──────────────────────────────────────────────────────────────────────────

pub fill_with : (P : ℕ → ℕ → Type 0) (xs : List ℕ) (v t : ℕ) → v < length xs → P v t → ((k : ℕ) → k < v → P k (at xs k))
    → (k : ℕ) → k < v + 1 → P k (at (set xs v t) k)
fill_with P xs v t h p w k l = go (ℕ_discrete k v)
  where
    go : Dec (k ≡ v) → P k (at (set xs v t) k)
    go (yes z) = subst (λ x. P x (at (set xs v t) x)) (sym z) (subst (P v) (sym (get_or-set_same xs v t 0 h)) p)
    go (no z) = subst (P k) (sym (get_or-set_other xs v k t 0 z)) (w k (omega arith))

pub fill_more : (f : ℕ → ℕ) (xs : List ℕ) (v t : ℕ) → v < length xs → t ≡ f v → ((k : ℕ) → k < v → at xs k ≡ f k)
    → (k : ℕ) → k < v + 1 → at (set xs v t) k ≡ f k
fill_more f = fill_with (λ k x. x ≡ f k)

-- ── With the members that have a property ───────────────────────────────────────────────────

module _ (P : ℕ → Type 0) (old : List ℕ) where
  pub filtered_none : (new : List ℕ) → Filtered P old 0 new 0
  filtered_none new = record { few = omega arith; each = λ i h. absurd (let z : ⊥ = omega arith in z); every = λ p h. absurd (let z : ⊥ = omega arith in z) }

  module _ (i : ℕ) (new : List ℕ) (r : ℕ) (s : Filtered P old i new r) where
    wider : (j : ℕ) → j < r → FilteredAt P old (suc i) new j
    wider j h =
        let k = s.each j h in
        record { place = k.place; within = omega (arith, k.within); same = k.same; has = k.has; before = k.before }

    pub filtered_miss : ¬ P (at old i) → Filtered P old (i + 1) new r
    filtered_miss z =
        rw (add-one i) (record {
          few = omega (arith, s.few);
          each = wider;
          every = λ p h k. s.every p (below p h k (ℕ_discrete p i)) k;
        })
      where
        below : (p : ℕ) → p < suc i → P (at old p) → Dec (p ≡ i) → p < i
        below p h k (yes e) = absurd (z (subst (λ q. P (at old q)) e k))
        below p h k (no e) = omega arith

    -- What came before it and has the property stands before it already.
    pub filtered_hit : P (at old i) → r < length new → Filtered P old (i + 1) (set new r (at old i)) (r + 1)
    filtered_hit z l =
        rw (add-one i, add-one r) (record {
          few = omega (arith, s.few);
          each = λ j h. one j h (ℕ_discrete j r);
          every = λ p h k. all p h k (ℕ_discrete p i);
        })
      where
        new' : List ℕ
        new' = set new r (at old i)

        last : at new' r ≡ at old i
        last = get_or-set_same new r (at old i) 0 l

        one : (j : ℕ) → j < suc r → Dec (j ≡ r) → FilteredAt P old (suc i) new' j
        one j h (yes e) = subst (FilteredAt P old (suc i) new') (sym e) (record {
          place = i;
          within = omega arith;
          same = sym last;
          has = subst P (sym last) z;
          before = λ q m k. set_stands new r (at old i) r (at old q) (omega arith) (s.every q m k);
        })
        one j h (no e) =
            let k = wider j (omega arith) in
            let o : at new' j ≡ at new j = get_or-set_other new r j (at old i) 0 e in
            record {
              place = k.place;
              within = k.within;
              same = k.same ∙ sym o;
              has = subst P (sym o) k.has;
              before = λ q m y. set_stands new r (at old i) j (at old q) (omega arith) (k.before q m y);
            }

        all : (p : ℕ) → p < suc i → P (at old p) → Dec (p ≡ i) → Stands new' (suc r) (at old p)
        all p h k (yes e) = record { place = r; within = omega arith; holds = last ∙ ap (at old) (sym e) }
        all p h k (no e) =
            let t = set_stands new r (at old i) r (at old p) (omega arith) (s.every p (omega arith) k) in
            record { place = t.place; within = omega (arith, t.within); holds = t.holds }

-- Places in a list of nodes.
--   places_none, places_more    the places of no node yet; one node further
--   place_low                   each node of the list has a place in it
use Prim.Native.Nat.{ℕ, zero, suc, ◌+◌, ◌≤◌, ◌<◌}
use native.Mathlib.Omega.{arith}
use native.Mathlib.Decide.{ℕ_discrete}
use mathlib.Core.Path.{◌≡◌, refl, sym, ap, ◌∙◌}
use mathlib.Core.List.{List}
use lib.ListN.{length, set, replicate}
use lib.Seq.{get_or-set_same, get_or-set_other}
use Rattle.std.specs.Prelude.{Option, Some, None}
use Rattle.std.specs.Option.{unwrap_or}
use Rattle.graph.specs.Columns.{at}
use Rattle.graph.specs.inner.Sort.{Places, place_in, place_at}

some_is : {x y : ℕ} → Some x ≡ Some y → x ≡ y
some_is {x} e = ap (λ o. unwrap_or o x) e

none_some : {x : ℕ} {o : Option ℕ} → o ≡ None → ¬ (o ≡ Some x)
none_some {x} n e = absurd (let z : x + 1 ≡ x = ap (λ o. unwrap_or o (x + 1)) (sym n ∙ e) in omega (arith, z))

none_at : (n v : ℕ) → place_in (replicate n None) v ≡ None
none_at zero v = refl
none_at (suc n) zero = refl
none_at (suc n) (suc v) = none_at n v

pub places_none : (list : List ℕ) (n : ℕ) → Places list 0 (replicate n None)
places_none list n = record {
  found = λ i h. absurd (let z : ⊥ = omega arith in z);
  last = λ i p h. absurd (let z : ⊥ = omega arith in z);
  holds = λ v p e. absurd (none_some (none_at n v) e);
}

pub places_more : (list : List ℕ) (i : ℕ) (place : List (Option ℕ)) → at list i < length place → Places list i place
    → Places list (i + 1) (set place (at list i) (Some i))
places_more list i place h w =
    record {
      found = λ k l. found k l (ℕ_discrete (at list k) v);
      last = λ k p l. last k p l (ℕ_discrete (at list k) v);
      holds = λ u p. holds u p (ℕ_discrete u v);
    }
  where
    v : ℕ
    v = at list i

    new : List (Option ℕ)
    new = set place v (Some i)

    here : (u : ℕ) → u ≡ v → place_in new u ≡ Some i
    here u e = ap (place_in new) e ∙ get_or-set_same place v (Some i) None h

    there : (u : ℕ) → ¬ (u ≡ v) → place_in new u ≡ place_in place u
    there u z = get_or-set_other place v u (Some i) None z

    before : (k : ℕ) → k < i + 1 → ¬ (at list k ≡ v) → k < i
    before k l z = below (ℕ_discrete k i)
      where
        below : Dec (k ≡ i) → k < i
        below (yes e) = absurd (z (ap (at list) e))
        below (no e) = omega arith

    found : (k : ℕ) → k < i + 1 → Dec (at list k ≡ v) → ¬ (place_in new (at list k) ≡ None)
    found k l (yes e) = λ n. none_some n (here (at list k) e)
    found k l (no z) = λ n. w.found k (before k l z) (sym (there (at list k) z) ∙ n)

    last : (k p : ℕ) → k < i + 1 → Dec (at list k ≡ v) → place_in new (at list k) ≡ Some p → k ≤ p
    last k p l (yes e) q = omega (arith, some_is (sym (here (at list k) e) ∙ q))
    last k p l (no z) q = w.last k p (before k l z) (sym (there (at list k) z) ∙ q)

    holds : (u p : ℕ) → Dec (u ≡ v) → place_in new u ≡ Some p → (p < i + 1) × (at list p ≡ u)
    holds u p (yes e) q =
        let k : i ≡ p = some_is (sym (here u e) ∙ q) in
        (omega arith, ap (at list) (sym k) ∙ sym e)
    holds u p (no z) q =
        let r = w.holds u p (sym (there u z) ∙ q) in
        (omega (arith, r.0), r.1)

-- Places below n, or 0 where there is none.
pub place_low : (list : List ℕ) (n : ℕ) (place : List (Option ℕ)) → Places list n place → 0 < n → (v : ℕ) → place_at place v < n
place_low list n place w h v = go (place_in place v) refl
  where
    go : (o : Option ℕ) → place_in place v ≡ o → unwrap_or o 0 < n
    go None e = h
    go (Some p) e = (w.holds v p e).0

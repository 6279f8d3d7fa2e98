-- What a run lists, and what stands in it.
--   mark_some, mark_has        an edge is marked where it has a register, and nowhere else
--   keyed, listed_picks        what is picked by its key is listed
--   marked_item                the edges with a register are picked by their mark
--   listed_many                as many are listed as there are of the key
--   listed_item                what stands at a place: an item of the key, with as many before it
--   listed_place               where an item of the key stands
--   listed_apart               no item stands twice
--   listed_within              each is an item
use Prim.Native.Nat.{ℕ, zero, suc, ◌<◌, ◌≤◌, min}
use native.Mathlib.Omega.{arith}
use native.Mathlib.Decide.{ℕ_discrete}
use mathlib.Core.Path.{◌≡◌, refl, sym, ap, ◌∙◌, subst}
use mathlib.Core.Bool.{cond}
use mathlib.Core.List.{List, [], ◌∷◌, ◌++◌, append-nil}
use lib.Dec.{eqb}
use lib.ListN.{length}
use borrow.Author.Tests.{eq-eqb, ne_eqb}
use Rattle.std.specs.Prelude.{Option, Some, None}
use Rattle.theory.specs.Clock.{gather}
use Rattle.graph.specs.Columns.{at}
use Rattle.graph.specs.inner.Sort.{group}
use Rattle.graph.proofs.Sorted.{group_holds, group_item}
use Rattle.graph.specs.inner.Picks.{picks}
use Rattle.simulate.specs.inner.Lists.{marked, Listed}
use Rattle.simulate.specs.inner.Signals.{Within}

-- ── Edges with a register ───────────────────────────────────────────────────────────────────

mark_at : (count : List ℕ) (e : ℕ) → at (marked count) e ≡ min 1 (at count e)
mark_at [] e = refl
mark_at (w ∷ count) zero = refl
mark_at (w ∷ count) (suc e) = mark_at count e

module _ (count : List ℕ) (e : ℕ) where
  pub mark_some : ¬ (at count e ≡ 0) → at (marked count) e ≡ 1
  mark_some z = mark_at count e ∙ omega arith

  pub mark_has : at (marked count) e ≡ 1 → 0 < at count e
  mark_has q = omega (arith, mark_at count e)

-- ── What is picked ──────────────────────────────────────────────────────────────────────────

-- A number, where its key is k.
abbrev pub keyed : List ℕ → ℕ → ℕ → Option ℕ
keyed key k i = cond (eqb (at key i) k) (Some i) None

module _ (key : List ℕ) (k : ℕ) where
  picks_group : (n : ℕ) → picks (keyed key k) n ≡ group key k n
  unfolding picks gather
  picks_group zero = refl
  picks_group (suc n) = go (ℕ_discrete (at key n) k) (picks_group n)
    where
      go : Dec (at key n ≡ k) → picks (keyed key k) n ≡ group key k n → picks (keyed key k) (suc n) ≡ group key k (suc n)
      go (yes q) e = rw (eq-eqb (at key n) k q) (ap (λ (xs : List ℕ). xs ++ n ∷ []) e)
      go (no q) e = rw (ne_eqb (at key n) k q) (e ∙ sym (append-nil _))

  pub listed_picks : {n : ℕ} {list : List ℕ} → list ≡ picks (keyed key k) n → Listed key k n list
  listed_picks {n} e = record { items = e ∙ picks_group n }

-- An edge with a register is one that is marked.
pub marked_item : (count : List ℕ) (e : ℕ) → cond (eqb (at count e) 0) None (Some e) ≡ keyed (marked count) 1 e
marked_item count e = go (ℕ_discrete (at count e) 0)
  where
    go : Dec (at count e ≡ 0) → cond (eqb (at count e) 0) None (Some e) ≡ keyed (marked count) 1 e
    go (yes z) = rw (eq-eqb (at count e) 0 z, ne_eqb (at (marked count) e) 1 (λ q. omega (arith, mark_has count e q)))
    go (no z) = rw (ne_eqb (at count e) 0 z, eq-eqb (at (marked count) e) 1 (mark_some count e z))

-- ── What stands in it ───────────────────────────────────────────────────────────────────────

module _ {key : List ℕ} {k n : ℕ} {list : List ℕ} (s : Listed key k n list) where
  pub listed_many : length list ≡ length (group key k n)
  listed_many = ap length s.items

  pub listed_item : (i : ℕ) → i < length list → (at list i < n) × (at key (at list i) ≡ k) × (length (group key k (at list i)) ≡ i)
  listed_item i h = rw s.items (group_item key k n i (omega (arith, listed_many)))

  pub listed_apart : (i j : ℕ) → i < length list → j < length list → at list i ≡ at list j → i ≡ j
  listed_apart i j h l q = sym (listed_item i h).2 ∙ ap (λ x. length (group key k x)) q ∙ (listed_item j l).2

  pub listed_place : (u : ℕ) → u < n → at key u ≡ k → (length (group key k u) < length list) × (at list (length (group key k u)) ≡ u)
  listed_place u h q =
      let t = group_holds key k n u h q in
      let l : t.place < length list = omega (arith, listed_many, t.within) in
      let here : at list t.place ≡ u = ap (λ xs. at xs t.place) s.items ∙ t.holds in
      let p : t.place ≡ length (group key k u) = sym (listed_item t.place l).2 ∙ ap (λ x. length (group key k x)) here in
      (subst (λ i. i < length list) p l, subst (λ i. at list i ≡ u) p here)

  pub listed_within : (size : ℕ) → n ≤ size → Within list size
  listed_within size h i l = omega (arith, (listed_item i l).0)

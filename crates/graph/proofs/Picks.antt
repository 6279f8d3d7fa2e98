-- Lists that are picked.
--   picks_zero, picks_some, picks_none    none yet; the next number gives one, or none
--   Picked              a member of a list is picked where it has a property, and else nothing
--   picks_filtered      what is so picked is the list filtered
use Prim.Native.Nat.{ℕ, zero, suc, ◌+◌}
use native.Mathlib.Omega.{arith}
use native.Mathlib.Numerals.{add-one}
use mathlib.Core.Path.{◌≡◌, refl, sym, subst, ◌∙◌}
use mathlib.Core.Logic.{◌⊎◌, inl, inr}
use mathlib.Core.List.{List, [], ◌∷◌, ◌++◌, append-nil, append_assoc}
use lib.ListN.{length, length-append, set}
use lib.Seq.{set-append_seam}
use Rattle.std.specs.Prelude.{Option, Some, None}
use Rattle.graph.specs.Columns.{at}
use Rattle.graph.specs.inner.Lists.{Filtered}
use Rattle.graph.specs.inner.Picks.{picks}
use Rattle.graph.proofs.Fills.{filtered_none, filtered_hit, filtered_miss}

module _ (item : ℕ → Option ℕ) where
  pub picks_zero : [] ≡ picks item 0
  unfolding picks
  picks_zero = refl

  pub picks_some : (n x : ℕ) → item n ≡ Some x → picks item n ++ x ∷ [] ≡ picks item (n + 1)
  unfolding picks
  picks_some n x e = rw (add-one n, e)

  pub picks_none : (n : ℕ) → item n ≡ None → picks item n ≡ picks item (n + 1)
  unfolding picks
  picks_none n e = rw (add-one n, e)

abbrev pub Picked : (ℕ → Type 0) → List ℕ → (ℕ → Option ℕ) → ℕ → Type 0
Picked P list pick i = (P (at list i) × (pick i ≡ Some (at list i))) ⊎ ((¬ P (at list i)) × (pick i ≡ None))

module _ (P : ℕ → Type 0) (list : List ℕ) (pick : ℕ → Option ℕ) (tells : (i : ℕ) → Picked P list pick i) where
  -- A list is as well filtered, whatever stands past its items.
  filtered_before : (n : ℕ) (past : List ℕ) → Filtered P list n (picks pick n ++ past) (length (picks pick n))
  unfolding picks
  filtered_before zero past = filtered_none P list past
  filtered_before (suc n) past = go (tells n) (filtered_before n)
    where
      xs : List ℕ
      xs = picks pick n

      v : ℕ
      v = at list n

      -- The item is stored behind the others.
      stored : set (xs ++ 0 ∷ past) (length xs) v ≡ (xs ++ v ∷ []) ++ past
      stored = set-append_seam xs 0 past v ∙ sym (append_assoc xs (v ∷ []) past)

      go : Picked P list pick n → ((past : List ℕ) → Filtered P list n (xs ++ past) (length xs)) → Filtered P list (suc n) (picks pick (suc n) ++ past) (length (picks pick (suc n)))
      go (inr k) before = rw k.1 (rw add-one at (filtered_miss P list n (xs ++ past) (length xs) (before past) k.0))
      go (inl k) before =
          rw (k.1, ← stored, length-append xs (v ∷ []))
          (rw add-one at (filtered_hit P list n (xs ++ 0 ∷ past) (length xs) (before (0 ∷ past)) k.0 (omega (arith, length-append xs (0 ∷ past)))))

  pub picks_filtered : {n : ℕ} {new : List ℕ} → new ≡ picks pick n → Filtered P list n new (length new)
  picks_filtered {n} e = rw e (subst (λ xs. Filtered P list n xs (length (picks pick n))) (append-nil (picks pick n)) (filtered_before n []))

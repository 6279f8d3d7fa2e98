-- Parts of lists, through a function.
--   part_map            over a stretch the one list has f of the other's members
--   map_at              a member of a list through a function
--   range_at            a member of a part of a list
--   range_length        how long the part is
use Prim.Native.Nat.{ℕ, zero, suc, ◌+◌, ◌-◌, ◌≤◌, ◌<◌}
use native.Mathlib.Omega.{arith}
use mathlib.Core.Path.{◌≡◌, refl, ap, ap₂, ◌∙◌}
use mathlib.Core.List.{List, [], ◌∷◌, map}
use lib.ListN.{length, take, drop}
use lib.Seq.{drop-cons}
use Rattle.std.specs.Prelude.{slice_range}
use Rattle.std.proofs.lemmas.List.{get_or-take, get_or-drop, length-take-le, length-drop}
use Rattle.graph.specs.Columns.{at}

pub part_map : (f : ℕ → ℕ) (xs ys : List ℕ) (n a b : ℕ) → a + n ≤ length ys → b + n ≤ length xs → ((k : ℕ) → k < n → at ys (a + k) ≡ f (at xs (b + k)))
    → take n (drop a ys) ≡ map f (take n (drop b xs))
part_map f xs ys zero a b h l w = refl
part_map f xs ys (suc n) a b h l w =
    rw (drop-cons xs b 0 (omega arith), drop-cons ys a 0 (omega arith))
    (ap₂ ◌∷◌ (moved a b 0 (omega arith) (omega arith) (w 0 (omega arith)))
    (part_map f xs ys n (suc a) (suc b) (omega arith) (omega arith) (λ k m. moved (suc a + k) (suc b + k) (suc k) (omega arith) (omega arith) (w (suc k) (omega arith)))))
  where
    moved : (i j k : ℕ) → i ≡ a + k → b + k ≡ j → at ys (a + k) ≡ f (at xs (b + k)) → at ys i ≡ f (at xs j)
    moved i j k p q e = ap (at ys) p ∙ e ∙ ap (λ m. f (at xs m)) q

pub map_at : (f : ℕ → ℕ) (xs : List ℕ) (k : ℕ) → k < length xs → at (map f xs) k ≡ f (at xs k)
map_at f [] k h = absurd (omega arith)
map_at f (x ∷ xs) zero h = refl
map_at f (x ∷ xs) (suc k) h = map_at f xs k (omega arith)

pub range_at : (xs : List ℕ) (lo hi k : ℕ) → lo + k < hi → at (slice_range xs lo hi) k ≡ at xs (lo + k)
range_at xs lo hi k h = get_or-take (hi - lo) (drop lo xs) k 0 (omega arith) ∙ get_or-drop lo xs k 0

pub range_length : (xs : List ℕ) (lo hi : ℕ) → hi ≤ length xs → length (slice_range xs lo hi) ≡ hi - lo
range_length xs lo hi h = length-take-le (hi - lo) (drop lo xs) (omega (arith, length-drop {A = ℕ}))

-- Stores into a list.
--   set_stands          a store at n changes nothing below n
--   sets_at, sets_past  what a run of stores from the front on leaves at its places and past them
use Prim.Native.Nat.{ℕ, ◌+◌, ◌-◌, ◌≤◌, ◌<◌}
use native.Mathlib.Omega.{arith}
use mathlib.Core.Path.{◌≡◌, ap, ◌∙◌}
use mathlib.Core.List.{List, ◌++◌}
use lib.ListN.{length, set, drop, get_or-append}
use lib.Seq.{sets, sets-eq, get_or-set_other, get_or-append-add, get_or-drop}
use Rattle.graph.specs.Columns.{at}
use Rattle.graph.specs.inner.Sort.{Stands}

pub set_stands : (xs : List ℕ) (n x m i : ℕ) → m ≤ n → Stands xs m i → Stands (set xs n x) m i
set_stands xs n x m i h s = record {
  place = s.place;
  within = s.within;
  holds = get_or-set_other xs n s.place x 0 (let z : ¬ (s.place ≡ n) = λ e. omega (arith, s.within) in z) ∙ s.holds;
}

pub sets_at : (xs old : List ℕ) (p : ℕ) → length xs ≤ length old → p < length xs → at (sets old 0 xs) p ≡ at xs p
sets_at xs old p h l = ap (λ ys. at ys p) (sets-eq xs old 0 (omega arith)) ∙ get_or-append xs _ 0 p l

pub sets_past : (xs old : List ℕ) (p : ℕ) → length xs ≤ length old → length xs ≤ p → at (sets old 0 xs) p ≡ at old p
sets_past xs old p h l =
    let rest = drop (0 + length xs) old in
    let e : p ≡ length xs + (p - length xs) = omega arith in
    ap (λ ys. at ys p) (sets-eq xs old 0 (omega arith)) ∙ ap (at (xs ++ rest)) e
    ∙ get_or-append-add xs rest (p - length xs) 0 ∙ get_or-drop (0 + length xs) old (p - length xs) 0 ∙ ap (at old) (let y : 0 + length xs + (p - length xs) ≡ p = omega arith in y)

-- A part of a list that is put anew: the list xs with ys in place of its k members from place a on.
--   put_size                        it is as long
--   put_before, put_within, put_after    what stands before the part, in it, and after it
use Prim.Native.Nat.{ℕ, ◌+◌, ◌-◌, ◌≤◌, ◌<◌}
use native.Mathlib.Omega.{arith}
use mathlib.Core.Path.{◌≡◌, ap, ◌∙◌}
use mathlib.Core.List.{List, ◌++◌}
use lib.ListN.{length, take, drop, length-append, length-drop, get_or-append}
use borrow.Rule.Slice.PartMut.{put_mid, post_of}
use Rattle.std.proofs.lemmas.List.{length-take-le, get_or-take, get_or-drop, get_or-append_right}
use Rattle.graph.specs.Columns.{at}

module _ (a k : ℕ) (xs ys : List ℕ) (size : length ys ≡ k) (fits : a + k ≤ length xs) where
  front : length (take a xs) ≡ a
  front = length-take-le a xs (omega arith)

  pub put_size : length (put_mid a k xs ys) ≡ length xs
  put_size = simp (length-append, length-drop) (omega (arith, front))

  pub put_before : (j : ℕ) → j < a → at (put_mid a k xs ys) j ≡ at xs j
  put_before j h = get_or-append (take a xs) (ys ++ post_of a k xs) 0 j (omega (arith, front)) ∙ get_or-take a xs j 0 h

  pub put_within : (j : ℕ) → a ≤ j → j < a + k → at (put_mid a k xs ys) j ≡ at ys (j - a)
  put_within j h l =
      get_or-append_right (take a xs) (ys ++ post_of a k xs) a j 0 front h ∙ get_or-append ys (post_of a k xs) 0 (j - a) (omega arith)

  pub put_after : (j : ℕ) → a + k ≤ j → at (put_mid a k xs ys) j ≡ at xs j
  put_after j h =
      get_or-append_right (take a xs) (ys ++ post_of a k xs) a j 0 front (omega arith)
      ∙ get_or-append_right ys (post_of a k xs) k (j - a) 0 size (omega arith)
      ∙ get_or-drop k (drop a xs) (j - a - k) 0
      ∙ get_or-drop a xs (k + (j - a - k)) 0
      ∙ ap (at xs) (let z : a + (k + (j - a - k)) ≡ j = omega arith in z)

-- The code's buffers.
--   placed_room, placed_full     a line written where there is room, and where there is none
--   length_placed                the buffer keeps its length
use mathlib.Core.Path.{◌≡◌, refl}
use mathlib.Core.Bool.{Bool, true, false, cond}
use mathlib.Core.List.{List}
use Prim.Native.Nat.{ℕ, ◌+◌, ◌≤◌, ◌<◌}
use lib.Dec.{leb}
use lib.ListN.{length}
use lib.Seq.{sets, length-sets}
use borrow.Author.Tests.{le-leb, lt-leb}
use Rattle.frame.specs.Frame.{placed}

pub placed_room : (l : List ℕ) (at : ℕ) (vs : List ℕ) → at + length vs ≤ length l → placed l at vs ≡ sets l at vs
unfolding placed
placed_room l at vs h = rw (le-leb (at + length vs) (length l) h)

pub placed_full : (l : List ℕ) (at : ℕ) (vs : List ℕ) → length l < at + length vs → placed l at vs ≡ l
unfolding placed
placed_full l at vs h = rw (lt-leb (at + length vs) (length l) h)

pub length_placed : (l : List ℕ) (at : ℕ) (vs : List ℕ) → length (placed l at vs) ≡ length l
unfolding placed
length_placed l at vs = go (leb (at + length vs) (length l))
  where
    go : (t : Bool) → length (cond t (sets l at vs) l) ≡ length l
    go true = length-sets l at vs
    go false = refl

-- Stores into a list.
--   sets_sets           two runs of stores, one after the other
use Prim.Native.Nat.{ℕ, suc, ◌+◌}
use native.Mathlib.Omega.{arith}
use mathlib.Core.Path.{◌≡◌}
use mathlib.Core.List.{List, [], ◌∷◌, ◌++◌}
use lib.ListN.{length, set}
use lib.Seq.{sets}

pub sets_sets : (vs ws l : List ℕ) (i j : ℕ) → j ≡ i + length vs → sets (sets l i vs) j ws ≡ sets l i (vs ++ ws)
sets_sets [] ws l i j e = let f : j ≡ i = omega arith in rw f
sets_sets (v ∷ vs) ws l i j e = sets_sets vs ws (set l i v) (suc i) j (omega arith)

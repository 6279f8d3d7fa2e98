-- Where the operands of a program's cells (crate search) are.
--   operand_at          an operand is in its cell's rows
use Prim.Native.Nat.{ℕ, suc, ◌+◌, ◌-◌, ◌<◌, min}
use native.Mathlib.Omega.{arith}
use mathlib.Core.Path.{◌≡◌, sym, ◌∙◌}
use mathlib.Core.List.{List}
use lib.ListN.{length, take, drop, length-take}
use lib.Seq.{get_or-take, get_or-drop}
use Rattle.graph.specs.Columns.{at}
use Rattle.search.specs.inner.Program.{operands_of}

pub operand_at : (first operand : List ℕ) (i p : ℕ) → p < length (operands_of first operand i)
    → (at first i + p < at first (suc i)) × (at operand (at first i + p) ≡ at (operands_of first operand i) p)
operand_at first operand i p h =
    let n = at first (suc i) - at first i in
    let rest = drop (at first i) operand in
    let l : length (take n rest) ≡ min n (length rest) = length-take n rest in (
      omega arith,
      sym (get_or-take n rest p 0 (omega arith) ∙ get_or-drop (at first i) operand p 0),
    )

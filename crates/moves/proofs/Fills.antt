-- A column filled from the front, a row at a time.
use Prim.Native.Nat.{ℕ, ◌+◌, ◌<◌}
use native.Mathlib.Omega.{arith}
use mathlib.Core.Path.{◌≡◌, ◌∙◌}
use mathlib.Core.List.{List}
use lib.ListN.{length, set}
use lib.Seq.{get_or-set_other}
use Rattle.graph.specs.Columns.{at}
use Rattle.graph.proofs.Fills.{fill_more}
use Rattle.moves.specs.inner.Columns.{Filled}

module _ (f rest : ℕ → ℕ) (xs : List ℕ) where
  pub filled_none : ((e : ℕ) → at xs e ≡ rest e) → Filled f rest 0 xs
  filled_none h = record { rows = λ e l. absurd (let z : ⊥ = omega arith in z); past = λ e l. h e }

  pub filled_more : (e x : ℕ) → e < length xs → x ≡ f e → Filled f rest e xs → Filled f rest (e + 1) (set xs e x)
  filled_more e x h q w = record {
    rows = fill_more f xs e x h q w.rows;
    past = λ j l. get_or-set_other xs e j x 0 (let z : ¬ (j ≡ e) = λ y. omega arith in z) ∙ w.past j (omega arith);
  }

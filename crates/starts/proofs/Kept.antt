-- The nodes of a list that are asked for at a clock.
--   asked_at            a node of the list, where it is asked for
--   asked_picks         as they are picked
use Prim.Native.Nat.{ℕ, ◌+◌, ◌<◌}
use native.Mathlib.Omega.{arith}
use native.Mathlib.Decide.{dec_lt}
use mathlib.Core.Path.{◌≡◌, refl}
use mathlib.Core.Logic.{inl, inr}
use mathlib.Core.Bool.{cond}
use mathlib.Core.List.{List}
use lib.Dec.{ltb}
use lib.ListN.{length}
use borrow.Author.Tests.{lt-ltb, le-ltb}
use Rattle.std.specs.Prelude.{Option, Some, None}
use Rattle.graph.specs.Columns.{at}
use Rattle.graph.specs.inner.Lists.{Filtered}
use Rattle.graph.specs.inner.Picks.{picks}
use Rattle.graph.proofs.Picks.{Picked, picks_filtered}
use Rattle.starts.specs.inner.Ring.{AskedAt}

abbrev pub asked_at : List ℕ → ℕ → List ℕ → ℕ → Option ℕ
asked_at lab s list i = cond (ltb (s + at lab (at list i)) 16384) (Some (at list i)) None

module _ (lab : List ℕ) (s : ℕ) (list : List ℕ) where
  tells : (i : ℕ) → Picked (AskedAt lab s) list (asked_at lab s list) i
  tells i = go (dec_lt (s + at lab (at list i)) 16384)
    where
      go : Dec (s + at lab (at list i) < 16384) → Picked (AskedAt lab s) list (asked_at lab s list) i
      go (yes q) = inl (q, rw (lt-ltb (s + at lab (at list i)) 16384 q) refl)
      go (no q) = inr (λ z. q z, rw (le-ltb (s + at lab (at list i)) 16384 (omega arith)) refl)

  pub asked_picks : {n : ℕ} {new : List ℕ} → new ≡ picks (asked_at lab s list) n → Filtered (AskedAt lab s) list n new (length new)
  asked_picks e = picks_filtered (AskedAt lab s) list (asked_at lab s list) tells e

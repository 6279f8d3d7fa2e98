-- New start values: chosen, or what the edge shows in the original with all inputs at 0.
--   new_chosen          the chosen ones are digits of the choice's number
--   new_seen            the others are what the edge shows in the original, r(v) clocks earlier
use Prim.Native.Nat.{ℕ, ◌+◌, ◌<◌}
use native.Mathlib.Omega.{arith}
use mathlib.Core.Path.{◌≡◌, ap}
use mathlib.Core.List.{List}
use borrow.Author.Tests.{lt-ltb, le-ltb}
use lib.IntN.{ℤ}
use Rattle.theory.specs.Graph.{Graph}
use Rattle.theory.specs.Clock.{Regs, seen, value}
use Rattle.theory.specs.Lag.{up, down}
use Rattle.theory.specs.Move.{move, move_if, quiet, sum, chosen_on, chosen_in, digit}
use Rattle.theory.specs.Retimer.{retimed}
use Rattle.theory.proofs.numbers.Whole.{no_down}

module _ (gate : ℕ → List ℕ → ℕ) (G : Graph) (R : Regs) (r : ℕ → ℤ) (c e t : ℕ) where
  pub new_chosen : t < up (r (G.dst e)) → (retimed gate G R r c).start e t ≡ digit (chosen_in G R.count r) c (sum (chosen_on G R.count r) e + t)
  unfolding move move_if
  new_chosen h = rw (lt-ltb (t + down (r (G.dst e))) (up (r (G.dst e))) (omega (arith, no_down (r (G.dst e)) (omega arith))))

  -- With s = t − r(v).
  pub new_seen : (s : ℕ) → s + up (r (G.dst e)) ≡ t + down (r (G.dst e)) → (retimed gate G R r c).start e t ≡ seen G R (value gate G R quiet) e s
  unfolding move move_if
  new_seen s h = rw (le-ltb (t + down (r (G.dst e))) (up (r (G.dst e))) (omega arith)) (ap (seen G R (value gate G R quiet) e) (omega arith))

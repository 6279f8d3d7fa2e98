-- Registers that are read alike.
use Rattle.std.specs.Prelude.{◌≡◌, ℕ, ◌<◌}
use Rattle.theory.specs.Graph.{Graph}
use Rattle.theory.specs.Clock.{Regs}

-- R' has the counts and the start values of R, wherever these are read.
pub record SameRegs (G : Graph) (R R' : Regs) : Type 0 where
  pub counts : (e : ℕ) → e < G.edges → R'.count e ≡ R.count e
  pub starts : (e t : ℕ) → e < G.edges → t < R.count e → R'.start e t ≡ R.start e t

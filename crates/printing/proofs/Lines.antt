-- Lags as numbers of two bytes, and their lines.
--   handed              a lag of two bytes, handed on as one of four and then of two
--   lag_length          a line has 11 bytes
use Prim.Native.Nat.{ℕ, ◌≤◌, ◌<◌}
use native.Mathlib.Omega.{arith}
use mathlib.Core.Path.{◌≡◌, ap, ◌∙◌}
use mathlib.Core.List.{List}
use mir.Syntax.{w16, w32}
use mir.Val.{SFits, of_z, to_z}
use mir.Facts.{to_z-of_z}
use lib.IntN.{ℤ, pos, negsuc}
use lib.ListN.{length}
use Rattle.theory.specs.Lag.{up, down}
use Rattle.frame.specs.Frame.{bytes_of}
use Rattle.frame.proofs.Laws.{length_line}
use Rattle.printing.specs.Listed.{lag_line}

-- A lag is handed on as its bits, of four bytes and then of two, which read back as it.
pub handed : (z : ℤ) → (up z < 32768) × (down z ≤ 32768) → to_z w16 (of_z w16 (to_z w32 (of_z w32 z))) ≡ z
handed z h = ap (λ x. to_z w16 (of_z w16 x)) (to_z-of_z (long z h)) ∙ to_z-of_z (short z h)
  where
    long : (z : ℤ) → (up z < 32768) × (down z ≤ 32768) → SFits w32 z
    long (pos n) h = record { sfits = omega (arith, h.0) }
    long (negsuc n) h = record { sfits = omega (arith, h.1) }

    short : (z : ℤ) → (up z < 32768) × (down z ≤ 32768) → SFits w16 z
    short (pos n) h = record { sfits = omega (arith, h.0) }
    short (negsuc n) h = record { sfits = omega (arith, h.1) }

pub lag_length : (lags : List ℤ) (v : ℕ) → length (lag_line lags v) ≡ 11
unfolding bytes_of
lag_length lags v = length_line _

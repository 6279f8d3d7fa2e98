-- The bytes of a number, high byte first, as the library and as the lines of digits have them.
--   last_four           the last of a number of eight bytes
--   lag_word            of a lag of two bytes
use Rattle.std.proofs.Common.{◌≡◌, ℕ, drop, ap, ◌∙◌, arith}
use Rattle.std.proofs.Math.Nat.{div-div-eq-div-mul}
use Rattle.std.specs.Int.{to_be_bytes, cast_signed, cast_unsigned}
use lib.IntN.{ℤ, pos, negsuc}
use mir.Val.{SFits}
use mir.Syntax.{w16, w64}
use mir.Facts.{to_z-of_z}
use Rattle.frame.specs.Frame.{bytes_of}
use Rattle.frame.proofs.Numbers.{code_two}
use Rattle.printing.specs.Listed.{twos}

pub last_four : (n : ℕ) → drop 4 (to_be_bytes w64 n) ≡ bytes_of 4 n
unfolding bytes_of
last_four n = simp div-div-eq-div-mul

-- A lag is handed on as its bits, which read back as it.
pub lag_word : (z : ℤ) → SFits w16 z → to_be_bytes w16 (cast_unsigned w16 (cast_signed w16 (cast_unsigned w16 z))) ≡ bytes_of 2 (twos z)
unfolding twos
lag_word z h = code_two _ ∙ ap (bytes_of 2) (ap (cast_unsigned w16) (to_z-of_z h) ∙ word z h)
  where
    word : (z : ℤ) → SFits w16 z → cast_unsigned w16 z ≡ twos z
    word (pos n) h = omega (arith, h.sfits)
    word (negsuc n) h = omega (arith, h.sfits)

-- What is printed of a run.
--   bit_digit b         the digit of a bit, as a byte
--   digit_line bits     the digits of bits, and a line feed
--   shown_run s ran     what is printed of a run that says s and leaves `ran`: its outputs, or the line of its refusal
--   PrintsRun t vectors old ran out r new  the text t run on these vectors into a buffer that held `old`, printed into one that held `out`
use Rattle.std.specs.Prelude.{◌≡◌, cond, List, [], ◌∷◌, ◌++◌, map, ℕ, eqb, take}
use Rattle.frame.specs.Frame.{placed}
use Rattle.netlist.specs.Answer.{Said, value, refused}
use Rattle.simulate.specs.Run.{Runs}
use Rattle.printing.specs.Shown.{refusal_line, line_in}

-- 0 is the byte 48, 1 the byte 49. (Outputs are bits.)
abbrev pub bit_digit : ℕ → ℕ
bit_digit b = cond (eqb b 0) 48 49

unfoldable pub digit_line : List ℕ → List ℕ
digit_line bits = map bit_digit bits ++ (10 ∷ [])

-- A run that says n has put n outputs at the front.
abbrev pub shown_run : Said → List ℕ → List ℕ
shown_run (value n) ran = digit_line (take n ran)
shown_run (refused q k p) ran = refusal_line (refused q k p)

-- `ran` and `new` are what the two buffers hold in the end; r is how many bytes of `new` are printed.
pub record PrintsRun (t vectors old ran out : List ℕ) (r : ℕ) (new : List ℕ) : Type 0 where
  pub said : Said
  pub runs : Runs t vectors old said ran
  pub result : r ≡ line_in (shown_run said ran) out
  pub buffer : new ≡ placed out 0 (shown_run said ran)

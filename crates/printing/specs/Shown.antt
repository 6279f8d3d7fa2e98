-- What is printed of a refusal, and of a text read and written again. Document 01, "Bench cards".
--   refusal_line s      the line of a refusal; nothing where nothing is refused
--   line_in line old    how many bytes of a buffer that held `old` the line takes: all of it, or none where there is no room
--   shown s t           what is printed of the text t, read and written again
--   Rereads t old r new the same, into a buffer that held `old`
use Rattle.std.specs.Prelude.{◌≡◌, cond, List, [], ◌∷◌, ℕ, leb, length}
use Rattle.frame.specs.Frame.{bytes_of, line_of, placed}
use Rattle.netlist.specs.Answer.{Said, value, refused}
use Rattle.netlist.specs.Write.{Rewrites}

-- "A refusal prints `0F`, number (1), place kind (1: 00 whole, 01 line, 02 node, 03 edge), place (2, 0 for whole)."
abbrev pub refusal_line : Said → List ℕ
refusal_line (value n) = []
refusal_line (refused q k p) = line_of (15 ∷ q ∷ k ∷ bytes_of 2 p)

abbrev pub line_in : List ℕ → List ℕ → ℕ
line_in line old = cond (leb (length line) (length old)) (length line) 0

-- The text, or the line of its refusal.
abbrev pub shown : Said → List ℕ → List ℕ
shown (value n) t = t
shown (refused q k p) t = refusal_line (refused q k p)

-- The buffer and the result of printing it.
pub record Rereads (t old : List ℕ) (r : ℕ) (new : List ℕ) : Type 0 where
  pub said : Said
  pub mid : List ℕ
  pub rewrites : Rewrites t old said mid
  pub result : r ≡ line_in (shown said t) old
  pub buffer : new ≡ placed old 0 (shown said t)

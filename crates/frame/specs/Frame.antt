-- Frames. Document 01: "One frame a line: hexadecimal digits 0-9 A-F, two a byte, no blanks, ended by one line feed. Numbers of several bytes have the high byte first."
--   digit_of c           the value of the digit c; 16 where c is none
--   line_at n l          the n bytes of the line at the front of l, and what follows the line
--   frame_at k n l       the same of a line of kind k with n more bytes: those n
--   number_at i n bs     the number of n bytes, from the i-th
--   hex_of bs, line_of bs the digits of the bytes bs; the line of them
--   bytes_of n x         the number x as n bytes
--   placed l at vs       l with vs from place `at` on, where there is room; else l
use Rattle.std.specs.Prelude.{Bool, false, cond, List, [], ◌∷◌, ◌++◌, ℕ, zero, suc, ◌+◌, ◌-◌, ◌*◌, ◌^◌, ◌/◌, ◌%◌, eqb, ltb, leb, length, take, drop}
use Rattle.std.proofs.lemmas.List.Edits.{sets}

abbrev pub within : ℕ → ℕ → ℕ → Bool
within low high x = cond (leb low x) (leb x high) false

-- 0-9 are the bytes 48 to 57, A-F the bytes 65 to 70.
unfoldable pub digit_of : ℕ → ℕ
digit_of c = cond (within 48 57 c) (c - 48) (cond (within 65 70 c) (c - 55) 16)

-- ── Read ────────────────────────────────────────────────────────────────────────────────────

-- A line's bytes and what follows it, or none: a "bad digit, length, end or kind, or a line missing".
pub data Line : Type 0 where
  bad : Line
  line : (bytes rest : List ℕ) → Line

abbrev pub on_line : {A : Type 0} → Line → A → (List ℕ → List ℕ → A) → A
on_line bad a f = a
on_line (line bs l) a f = f bs l

abbrev pub with_byte : ℕ → Line → Line
with_byte b bad = bad
with_byte b (line bs l) = line (b ∷ bs) l

unfoldable pub line_at : ℕ → List ℕ → Line
line_at zero [] = bad
line_at zero (c ∷ l) = cond (eqb c 10) (line [] l) bad
line_at (suc n) [] = bad
line_at (suc n) (a ∷ []) = bad
line_at (suc n) (a ∷ b ∷ l) = cond (cond (ltb (digit_of a) 16) (ltb (digit_of b) 16) false) (with_byte (digit_of a * 16 + digit_of b) (line_at n l)) bad

abbrev pub of_kind : ℕ → Line → Line
of_kind k bad = bad
of_kind k (line [] l) = bad
of_kind k (line (b ∷ bs) l) = cond (eqb b k) (line bs l) bad

unfoldable pub frame_at : ℕ → ℕ → List ℕ → Line
frame_at k n l = of_kind k (line_at (suc n) l)

unfoldable pub number : List ℕ → ℕ
number [] = 0
number (b ∷ bs) = b * 256 ^ length bs + number bs

abbrev pub number_at : ℕ → ℕ → List ℕ → ℕ
number_at i n bs = number (take n (drop i bs))

-- ── Written ─────────────────────────────────────────────────────────────────────────────────

unfoldable pub char_of : ℕ → ℕ
char_of d = cond (ltb d 10) (d + 48) (d + 55)

unfoldable pub hex_of : List ℕ → List ℕ
hex_of [] = []
hex_of (b ∷ bs) = char_of (b / 16) ∷ char_of (b % 16) ∷ hex_of bs

unfoldable pub line_of : List ℕ → List ℕ
line_of bs = hex_of bs ++ (10 ∷ [])

unfoldable pub bytes_of : ℕ → ℕ → List ℕ
bytes_of zero x = []
bytes_of (suc n) x = bytes_of n (x / 256) ++ (x % 256 ∷ [])

unfoldable pub placed : List ℕ → ℕ → List ℕ → List ℕ
placed l at vs = cond (leb (at + length vs) (length l)) (sets l at vs) l

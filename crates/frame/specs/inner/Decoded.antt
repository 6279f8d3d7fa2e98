-- What the code makes of a line: its bytes in an array, or none.
--   Digits table        the table gives each byte's value as a digit
--   byte_of a b         the byte of the digits a and b; none where one of them is no digit
--   decoded l           the bytes of the line l
--   framed k n l        the bytes of the line of kind k with n more bytes at the front of l: those n
--   filled_up m l       the bytes of the line l with zeros behind them, up to m
--   framed_within m k n l    `framed k n l` with zeros behind, up to m; none where n is above m
use Rattle.std.specs.Prelude.{◌≡◌, false, cond, List, ◌++◌, ℕ, ◌+◌, ◌-◌, ◌*◌, ◌<◌, ltb, leb, length, get_or, replicate, Option, None, Some}
use Rattle.frame.specs.Frame.{digit_of, Line, bad, line, frame_at}

pub record Digits (table : List ℕ) : Type 0 where
  pub size : length table ≡ 256
  pub values : (c : ℕ) → c < 256 → get_or table c 0 ≡ digit_of c

unfoldable pub byte_of : ℕ → ℕ → Option ℕ
byte_of a b = cond (cond (ltb (digit_of a) 16) (ltb (digit_of b) 16) false) (Some (digit_of a * 16 + digit_of b)) None

abbrev pub decoded : Line → Option (List ℕ)
decoded bad = None
decoded (line bs rest) = Some bs

abbrev pub framed : ℕ → ℕ → List ℕ → Option (List ℕ)
framed k n l = decoded (frame_at k n l)

abbrev pub filled_up : ℕ → Line → Option (List ℕ)
filled_up m bad = None
filled_up m (line bs rest) = Some (bs ++ replicate (m - length bs) 0)

unfoldable pub framed_within : ℕ → ℕ → ℕ → List ℕ → Option (List ℕ)
framed_within m k n l = cond (leb n m) (filled_up m (frame_at k n l)) None

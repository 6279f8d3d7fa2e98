-- An answer as one number, for programs in other languages.
--   code s              n itself; 2^63 + number * 2^32 + place kind * 2^16 + place for a refusal
--   place p             the last two of these
--   Coded P r           r is the number of something that a call says, of which P holds
use Rattle.std.specs.Prelude.{◌≡◌, ℕ, ◌+◌, ◌*◌}
use Rattle.netlist.specs.Answer.{Said, value, refused, kind_of, index_of}
use Rattle.netlist.specs.declared.Place.{Place}

abbrev pub place_code : Said → ℕ
place_code (value n) = 0
place_code (refused q k p) = k * 65536 + p

abbrev pub place : Place → ℕ
place p = place_code (refused 0 (kind_of p) (index_of p))

abbrev pub code : Said → ℕ
code (value n) = n
code (refused q k p) = 9223372036854775808 + q * 4294967296 + (k * 65536 + p)

abbrev pub Coded : (Said → Type 0) → ℕ → Type 0
Coded P r = (s : Said) × P s × (r ≡ code s)

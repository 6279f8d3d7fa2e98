-- What the stages of reading owe each other: a stage goes on with the rest of the lines, or stops at the first fault.
--   Goes r whole rest   with the result r: the lines are what the rest makes of what is filled; or r is their first fault
--   Lined t r           all lines read
--   Found n Says o      o is the lowest of the numbers below n of which a test says false, or there is none: it says true of all
use Rattle.std.specs.Prelude.{◌≡◌, Bool, true, false, List, ℕ, ◌<◌, Option, None, Some, Result, Ok, Err}
use Rattle.netlist.specs.declared.Netlist.{Netlist}
use Rattle.netlist.specs.declared.Refusal.{Refusal}
use Rattle.netlist.specs.declared.filled.Filled.{Filled}
use Rattle.netlist.specs.Answer.{refusal}
use Rattle.netlist.specs.Read.{Lines, fault, lines, lines_of}

abbrev pub Goes : Result Filled Refusal → Lines → (Filled → Lines) → Type 0
Goes (Ok f) whole rest = whole ≡ rest f
Goes (Err r) whole rest = whole ≡ fault (refusal r)

abbrev pub Lined : List ℕ → Result Netlist Refusal → Type 0
Lined t (Ok net) = lines_of t ≡ lines net
Lined t (Err r) = lines_of t ≡ fault (refusal r)

abbrev pub Found : ℕ → (ℕ → Bool → Type 0) → Option ℕ → Type 0
Found n Says None = (v : ℕ) → v < n → Says v true
Found n Says (Some v) = (v < n) × Says v false × ((u : ℕ) → u < v → Says u true)

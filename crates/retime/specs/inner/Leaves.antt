-- What the stages of a call promise each other.
--   FromShort           what is left of the row once the text has read: 12, 8, 9, 10, 11
--   Leaves F            what is said by the row F, and what the buffer and the lag table hold in the end
--   Moves               the netlist moved by the lags r, and how many values were chosen
--   MovesTo             that, or what is said of the lags r
use Rattle.std.specs.Prelude.{◌≡◌, Result, Ok, Err, List, ℕ, ℤ}
use Rattle.netlist.specs.declared.Netlist.{Netlist}
use Rattle.netlist.specs.declared.Refusal.{Refusal}
use Rattle.netlist.specs.Answer.{Said, value, refusal, whole, holds}
use Rattle.netlist.specs.Order.{◌or_else◌, Given}
use Rattle.netlist.specs.Write.{text_of}
use Rattle.moves.specs.Moved.{moved_net}
use Rattle.retime.specs.declared.Retimed.{Retimed}
use Rattle.retime.specs.Retime.{NoneMeets, lag_table, MovedBy, Short}

abbrev pub FromShort : List ℕ → List ℤ → Netlist → (ℕ → ℤ) → ℕ → Said → Type 0
FromShort out lags net r c = Given (Short out lags net) (whole 12) or_else Given (NoneMeets net) (whole 8) or_else MovedBy net r c

pub record Leaves (F : (ℕ → ℤ) → ℕ → Said → Type 0) (net : Netlist) (out : List ℕ) (lags : List ℤ) (s : Said) (out' : List ℕ) (lags' : List ℤ) : Type 0 where
  pub lag : ℕ → ℤ
  pub choice : ℕ
  pub answer : F lag choice s
  pub buffer : out' ≡ holds s (text_of (moved_net net lag choice)) out
  pub table : lags' ≡ holds s (lag_table net lag) lags

pub record Moves (net : Netlist) (r : ℕ → ℤ) (new : Retimed) : Type 0 where
  pub choice : ℕ
  pub answer : MovedBy net r choice (value new.chosen)
  pub moved : new.net ≡ moved_net net r choice

abbrev pub MovesTo : Netlist → (ℕ → ℤ) → Result Retimed Refusal → Type 0
MovesTo net r (Ok new) = Moves net r new
MovesTo net r (Err reason) = MovedBy net r 0 (refusal reason)

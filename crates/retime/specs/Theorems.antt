-- What is to be proved of retiming, beside the call. Each is a type; proofs/theorems has a term of it.
--   WrittenLength, SameLength, MovedReads    the new text has the length that is to be written, which is the old one's, and it reads
--   SomeOutcome, OneOutcome   no answer is free
--   RetimeRefusals, UnreadFact  each number is given exactly when its fact holds and no earlier one does
--   NothingTouched            a refusal leaves all that was lent
--   DemandFollows             demand 3 follows from the outcome
--   LagsFit                   two bytes hold every lag that comes back
use Rattle.std.specs.Prelude.{◌≡◌, ◌↔◌, List, ℕ, ◌<◌, ◌≤◌, ℤ, length}
use Rattle.theory.specs.Lag.{up, down, Legal}
use Rattle.netlist.specs.declared.Netlist.{Netlist}
use Rattle.netlist.specs.Net.{plain, graph_of, regs_of}
use Rattle.netlist.specs.Circuit.{ManyAt, NarrowAt, StartlessAt, WideAt}
use Rattle.netlist.specs.Answer.{Said, value, refused, whole, at_edge}
use Rattle.netlist.specs.Read.{Reads}
use Rattle.netlist.specs.Write.{text_of}
use Rattle.retime.specs.Retime.{NoneMeets, LeastLags, Room, Short, Retimes}
use Rattle.moves.specs.Moved.{moved_net}
use Rattle.retime.specs.Demand.{ComesBack, table_lag, Demand3}

-- What is to be written, by whatever lags and choice the netlist is moved.
abbrev pub WrittenLength : Type 0
WrittenLength = (net : Netlist) (r : ℕ → ℤ) (c : ℕ) → length (text_of (moved_net net r c)) ≡ length (text_of (plain net))

-- "a buffer for the new text (same length)": so the moved netlist's text is as long as the original's.
abbrev pub SameLength : Type 0
SameLength = (t : List ℕ) (net : Netlist) (r : ℕ → ℤ) (c : ℕ) → Reads t (value 0) net → length (text_of (moved_net net r c)) ≡ length t

-- The new text reads, whatever the choice, and gives the moved netlist back.
abbrev pub MovedReads : Type 0
MovedReads = (t : List ℕ) (net : Netlist) (r : ℕ → ℤ) (c : ℕ) → Reads t (value 0) net
    → Legal (graph_of net) (regs_of net).count r → NarrowAt net r
    → Reads (text_of (moved_net net r c)) (value 0) (moved_net net r c)

-- Every call has an outcome, and one only.
abbrev pub SomeOutcome : Type 0
SomeOutcome = (t out : List ℕ) (lags : List ℤ) → (s : Said) × (out' : List ℕ) × (lags' : List ℤ) × Retimes t out lags s out' lags'

abbrev pub OneOutcome : Type 0
OneOutcome = (t out : List ℕ) (lags : List ℤ) (s s'' : Said) (out' out'' : List ℕ) (lags' lags'' : List ℤ)
    → Retimes t out lags s out' lags' → Retimes t out lags s'' out'' lags'' → (s ≡ s'') × (out' ≡ out'') × (lags' ≡ lags'')

-- Each number is given exactly when its fact holds and no earlier one does.
pub record RetimeFacts (out : List ℕ) (lags : List ℤ) (s : Said) (net : Netlist) : Type 0 where
  pub twelve : (s ≡ whole 12) ↔ Short out lags net
  pub eight : Room out lags net → (s ≡ whole 8) ↔ NoneMeets net
  pub nine : Room out lags net → (r : ℕ → ℤ) → LeastLags net r → (e : ℕ) → (s ≡ at_edge 9 e) ↔ WideAt net r e
  pub ten : Room out lags net → (r : ℕ → ℤ) → LeastLags net r → (s ≡ whole 10) ↔ (NarrowAt net r × ManyAt net r)
  pub eleven : Room out lags net → (r : ℕ → ℤ) → LeastLags net r → NarrowAt net r → ¬ ManyAt net r → (s ≡ whole 11) ↔ StartlessAt net r

abbrev pub RetimeRefusals : Type 0
RetimeRefusals = (t out : List ℕ) (lags : List ℤ) (s : Said) (out' : List ℕ) (lags' : List ℤ) (net : Netlist)
    → Reads t (value 0) net → Retimes t out lags s out' lags' → RetimeFacts out lags s net

-- A text that does not read is refused as reading refuses it.
abbrev pub UnreadFact : Type 0
UnreadFact = (t out : List ℕ) (lags : List ℤ) (s : Said) (out' : List ℕ) (lags' : List ℤ) (q k p : ℕ) (net : Netlist)
    → Reads t (refused q k p) net → Retimes t out lags s out' lags' → s ≡ refused q k p

-- "nothing lent is touched", whatever the refusal.
abbrev pub NothingTouched : Type 0
NothingTouched = (t out : List ℕ) (lags : List ℤ) (s : Said) (out' : List ℕ) (lags' : List ℤ) (q k p : ℕ)
    → Retimes t out lags s out' lags' → s ≡ refused q k p → (out' ≡ out) × (lags' ≡ lags)

-- Demand 3 follows from the outcome: mathematics, no code.
abbrev pub DemandFollows : Type 0
DemandFollows = (t out : List ℕ) (lags : List ℤ) (s : Said) (out' : List ℕ) (lags' : List ℤ) → Retimes t out lags s out' lags' → Demand3 t out lags s out' lags'

-- No lag that comes back is above 24 or below −16,352 (511 edges of 32 registers), so "lag (2, two's complement)" holds it.
abbrev pub LagsFit : Type 0
LagsFit = (t out : List ℕ) (lags : List ℤ) (s : Said) (out' : List ℕ) (lags' : List ℤ) (net : Netlist) → Reads t (value 0) net
    → Retimes t out lags s out' lags' → ComesBack s → (v : ℕ) → v < net.nodes → (up (table_lag lags' v) ≤ 24) × (down (table_lag lags' v) ≤ 16352)

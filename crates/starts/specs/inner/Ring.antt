-- The original on zeros, in a ring of 64 rows: node v's value at clock t stands in row t % 64, 512 slots long. Behind the rows, at 32,768, stand 0 and 1.
--   row t               where the row of clock t begins
--   quietly net v t     node v's value at clock t in the original, with all inputs at 0
--   AskedAt lab t v     node v is asked for at clock t: its lag is below −t
--   Followed            what is left in the ring: of each node the last 32 values that are asked for
--   NothingYet          nothing is in the rows yet
--   slot_of, edge_slot  where the value stands that an edge shows in clock s: by its source u, its w registers and their start values `word`; of edge e
--   Slots               the slots from place lo up to place hi are those of the edges there
--   Puts                they are put there, and nothing else is
--   SlotsOf             the slots are right at the places of the first n nodes of a list
--   further c           a row further, round the ring
--   EdgeRows            what finding a slot asks of an edge
use Rattle.std.specs.Prelude.{◌≡◌, cond, ◌⊎◌, List, ℕ, suc, ◌+◌, ◌*◌, ◌-◌, ◌%◌, ◌<◌, ◌≤◌, ltb}
use Rattle.theory.specs.Clock.{value}
use Rattle.theory.specs.Gate.{gate}
use Rattle.theory.specs.Move.{quiet}
use Rattle.graph.specs.Columns.{at, bit}
use Rattle.gates.specs.inner.Gates.{AllBits}
use Rattle.netlist.specs.declared.Netlist.{Netlist}
use Rattle.netlist.specs.Net.{graph_of, regs_of}

abbrev pub row : ℕ → ℕ
row t = t % 64 * 512

abbrev pub quietly : Netlist → ℕ → ℕ → ℕ
quietly net v t = value gate (graph_of net) (regs_of net) quiet v t

-- A label is 16,384 and the lag.
abbrev pub AskedAt : List ℕ → ℕ → ℕ → Type 0
AskedAt lab t v = t + at lab v < 16384

pub record Followed (net : Netlist) (lab ring : List ℕ) : Type 0 where
  pub bits : AllBits ring
  pub zeroth : at ring 32768 ≡ 0
  pub one : at ring 32769 ≡ 1
  pub last : (v t : ℕ) → v < net.nodes → AskedAt lab t v → 16384 ≤ t + 32 + at lab v → at ring (row t + v) ≡ quietly net v t

pub record NothingYet (ring : List ℕ) : Type 0 where
  pub zero_all : (k : ℕ) → k < 32769 → at ring k ≡ 0
  pub one : at ring 32769 ≡ 1

-- ── Slots ───────────────────────────────────────────────────────────────────────────────────

-- Start value s while s is below w, and u's value at clock s − w after that.
unfoldable pub slot_of : ℕ → ℕ → ℕ → ℕ → ℕ
slot_of u w word s = cond (ltb s w) (32768 + bit word s) (row (s - w) + u)

abbrev pub edge_slot : Netlist → ℕ → ℕ → ℕ
edge_slot net s e = slot_of (at net.from e) (at net.count e) (at net.start e) s

abbrev pub Slots : List ℕ → Netlist → ℕ → ℕ → ℕ → List ℕ → Type 0
Slots ins net s lo hi slots = (k : ℕ) → lo ≤ k → k < hi → at slots k ≡ edge_slot net s (at ins k)

pub record Puts (ins : List ℕ) (net : Netlist) (s lo hi : ℕ) (old new : List ℕ) : Type 0 where
  pub done : Slots ins net s lo hi new
  pub rest : (k : ℕ) → (k < lo) ⊎ (hi ≤ k) → at new k ≡ at old k

abbrev pub further : ℕ → ℕ
further c = (c % 32768 + 512) % 32768

-- The edges that enter node v stand from place first(v) up to first(v + 1).
abbrev pub SlotsOf : List ℕ → ℕ → List ℕ → List ℕ → Netlist → ℕ → List ℕ → Type 0
SlotsOf list n first ins net s slots = (i : ℕ) → i < n → Slots ins net s (at first (at list i)) (at first (suc (at list i))) slots

pub record EdgeRows (net : Netlist) (e : ℕ) : Type 0 where
  pub low : e < 1024
  pub source : at net.from e < 512
  pub width : at net.count e ≤ 32

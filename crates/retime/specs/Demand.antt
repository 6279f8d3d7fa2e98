-- Demand 3, of one call of `retime`: its text t, the buffer and the table that were lent, what it said, and what they hold in the end.
--   Startable net       some legal retiming meets the period and carries the start
--   Asked               what the demand is about
--   ComesBack s         a retimed netlist comes back
--   table_lag lags      the lags that the table gives
--   Came                what is owed of what came back
--   Demand3             the demand
use Rattle.std.specs.Prelude.{◌≡◌, ◌↔◌, List, ℕ, ℤ, pos, length, get_or, take}
use Rattle.theory.specs.Clock.{Trace}
use Rattle.theory.specs.Gate.{gate}
use Rattle.theory.specs.Move.{Moved, Carries}
use Rattle.theory.specs.Retimer.{Possible}
use Rattle.netlist.specs.declared.Netlist.{Netlist}
use Rattle.netlist.specs.Answer.{Said, value}
use Rattle.netlist.specs.Net.{plain, graph_of, regs_of, delay_of}
use Rattle.netlist.specs.Circuit.{BestAt, ManyAt, NarrowAt, TraceIn, choice_at}
use Rattle.netlist.specs.Read.{Reads}
use Rattle.netlist.specs.Write.{text_of}
use Rattle.simulate.specs.Run.{Runs}
use Rattle.moves.specs.Moved.{moved_net}
use Rattle.retime.specs.Retime.{LeastLags, Room}

-- "some legal retiming meets the period and carries the start": any lags, any counts, any choice of bits.
abbrev pub Startable : Netlist → Type 0
Startable net = Possible gate (graph_of net) (regs_of net) (delay_of net) net.period

-- "Take any netlist that reads by document 01, however it is wired, and buffers long enough to retime it into.
-- Leave out only those whose least retiming puts over 32 registers on an edge or needs over 24 start values chosen."
pub record Asked (t out : List ℕ) (lags : List ℤ) (net : Netlist) : Type 0 where
  pub reads : Reads t (value 0) net
  pub room : Room out lags net
  pub few : (r : ℕ → ℤ) → LeastLags net r → NarrowAt net r × ¬ ManyAt net r

-- "a retimed netlist comes back when retiming isn't refused."
abbrev pub ComesBack : Said → Type 0
ComesBack s = (k : ℕ) × (s ≡ value k)

abbrev pub table_lag : List ℤ → ℕ → ℤ
table_lag lags v = get_or lags v (pos 0)

-- What came back: the new text, and the lags r.
pub record Came (t : List ℕ) (net : Netlist) (new : List ℕ) (r : ℕ → ℤ) : Type 0 where
  -- "Its lags are legal, meet the period, and are at every node at most those of every other legal retiming that meets it."
  pub least : LeastLags net r
  -- "It is the original moved by its lags as document 01 says, with the start taken there": the text of the moved netlist, which reads.
  pub number : ℕ
  pub start : BestAt net r number
  pub moved : new ≡ text_of (moved_net net r number)
  pub reads : Reads new (value 0) (moved_net net r number)
  -- Its registers are those of the paper's three cases (chosen, old, u's value in the original): "It depends on no input", so whatever inputs the original runs on.
  pub registers : (ins x : ℕ → ℕ → ℕ) → TraceIn net ins x
      → Moved (graph_of net) (regs_of net) (regs_of (moved_net net r number)) r (choice_at net r number) x
  -- Its start is carried: the nodes of the new netlist give the old values, "where no input bears on it", so whatever inputs the new netlist runs on.
  pub carries : (ins y : ℕ → ℕ → ℕ) → Trace gate (graph_of net) (regs_of (moved_net net r number)) ins y → Carries (graph_of net) (regs_of net) r y
  -- "For every list of input vectors, refused lists included, running the original and running the retimed netlist … give the same answer and the same outputs at every clock."
  -- "The original text and the new text are run on the same vector bytes, into buffers of equal length and content." (Every run has an outcome, and one only: simulate's `SomeRun`, `OneRun`.)
  pub same_runs : (vectors buffer : List ℕ) (s : Said) (after : List ℕ) → Runs t vectors buffer s after ↔ Runs new vectors buffer s after

pub record Demand3 (t out : List ℕ) (lags : List ℤ) (s : Said) (out' : List ℕ) (lags' : List ℤ) : Type 0 where
  -- "A retimed netlist comes back exactly when some legal retiming meets the period and carries the start."
  pub exactly : (net : Netlist) → Asked t out lags net → (ComesBack s ↔ Startable net)
  -- What comes back needs no such limit: it was within them. The new text is what was to be written, at the front.
  pub came : (net : Netlist) → Reads t (value 0) net → ComesBack s → Came t net (take (length (text_of (plain net))) out') (table_lag lags')

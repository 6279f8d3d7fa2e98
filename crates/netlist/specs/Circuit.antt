-- The theory's words, said of a netlist: of its circuit (graph_of, regs_of), the paper's gates and its working delays.
--   LoopIn net              a loop without a register
--   SoundIn net             what reading has made sure of
--   TraceIn net ins x       x has the value of each node at each clock, on the inputs ins
--   NoneMeetsIn net p       no legal retiming meets the period p
--   LeastIn net p r         r is the least retiming at the period p
--   chosen_in_at net r      how many values are chosen, moved by r
--   choice_at net r c       the choice of which c is the number
--   BestAt net r c          c is the smallest number of a choice that carries the start
--   StartlessAt net r       no choice carries it
--   WideAt, NarrowAt        the lowest edge whose new count is above 32; there is none
--   ManyAt net r            more than 24 chosen values
use Rattle.std.specs.Prelude.{ℕ, ℤ}
use Rattle.theory.specs.Gate.{gate}
use Rattle.theory.specs.Walk.{Loop}
use Rattle.theory.specs.Clock.{Trace}
use Rattle.theory.specs.Lag.{Least}
use Rattle.theory.specs.Move.{chosen_in, choice_of, Best}
use Rattle.theory.specs.Retimer.{Sound, NoRetiming, NoStart, TooWide, Narrow, TooMany}
use Rattle.netlist.specs.declared.Netlist.{Netlist}
use Rattle.netlist.specs.Net.{graph_of, regs_of, delay_of}

abbrev pub LoopIn : Netlist → Type 0
LoopIn net = Loop (graph_of net) (regs_of net).count

abbrev pub SoundIn : Netlist → Type 0
SoundIn net = Sound gate (graph_of net) (regs_of net)

abbrev pub TraceIn : Netlist → (ℕ → ℕ → ℕ) → (ℕ → ℕ → ℕ) → Type 0
TraceIn net ins x = Trace gate (graph_of net) (regs_of net) ins x

abbrev pub NoneMeetsIn : Netlist → ℕ → Type 0
NoneMeetsIn net p = NoRetiming (graph_of net) (regs_of net).count (delay_of net) p

abbrev pub LeastIn : Netlist → ℕ → (ℕ → ℤ) → Type 0
LeastIn net p r = Least (graph_of net) (regs_of net).count (delay_of net) p r

abbrev pub chosen_in_at : Netlist → (ℕ → ℤ) → ℕ
chosen_in_at net r = chosen_in (graph_of net) (regs_of net).count r

abbrev pub choice_at : Netlist → (ℕ → ℤ) → ℕ → ℕ → ℕ → ℕ
choice_at net r c = choice_of (graph_of net) (regs_of net).count r c

-- "the smallest is taken."
abbrev pub BestAt : Netlist → (ℕ → ℤ) → ℕ → Type 0
BestAt net r c = Best gate (graph_of net) (regs_of net) r c

-- "11: no choice carries the start."
abbrev pub StartlessAt : Netlist → (ℕ → ℤ) → Type 0
StartlessAt net r = NoStart gate (graph_of net) (regs_of net) r

-- "9 (lowest edge): a new count above 32."
abbrev pub WideAt : Netlist → (ℕ → ℤ) → ℕ → Type 0
WideAt net r e = TooWide (graph_of net) (regs_of net).count r e

abbrev pub NarrowAt : Netlist → (ℕ → ℤ) → Type 0
NarrowAt net r = Narrow (graph_of net) (regs_of net).count r

-- "10: more than 24 chosen values."
abbrev pub ManyAt : Netlist → (ℕ → ℤ) → Type 0
ManyAt net r = TooMany (graph_of net) (regs_of net).count r

-- The netlist record: a row of each kind put in, and the circuit that it stands for.
--   net_with                                  the record with these fields
--   empty_net, with_head, with_node, with_edge  the record as reading fills it
--   net_of                                    what a call's result gives: the record, or an empty one where it refuses
--   at_period, with_columns                   the record with another period; with other columns of counts and start values
--   plain                                     the record as a retimed one is written
--   rounded, working                          hundredths rounded to a whole number; a working delay
--   graph_of, regs_of, delay_of               the theory's graph and registers, and the working delays
use Rattle.std.specs.Prelude.{cond, List, ℕ, ◌+◌, ◌*◌, ◌/◌, ◌%◌, eqb, ltb, get_or, set, replicate, Result, Ok, Err}
use Rattle.theory.specs.Graph.{Graph}
use Rattle.theory.specs.Clock.{Regs}
use Rattle.graph.specs.Columns.{bit, column_graph}
use Rattle.netlist.specs.declared.Netlist.{Netlist}
use Rattle.netlist.specs.declared.Refusal.{Refusal}

-- Shut, so that no goal shows 512 rows.
unfoldable pub zeros : ℕ → List ℕ
zeros n = replicate n 0

-- A netlist by its fields, in their order. Every record of a netlist is made by this, so a new field is added here and where its value is known.
abbrev pub net_with : ℕ → ℕ → ℕ → ℕ → List ℕ → List ℕ → List ℕ → List ℕ → List ℕ → List ℕ → Netlist
net_with p d n e k l u v w s = record { period = p; derate = d; nodes = n; edges = e; kind = k; delay = l; from = u; to = v; count = w; start = s }

-- "reading makes them 0"
unfoldable pub with_head : ℕ → ℕ → ℕ → ℕ → Netlist
with_head p d n e = net_with p d n e (zeros 512) (zeros 512) (zeros 1024) (zeros 1024) (zeros 1024) (zeros 1024)

abbrev pub empty_net : Netlist
empty_net = with_head 0 0 0 0

abbrev pub net_of : Result Netlist Refusal → Netlist
net_of (Ok net) = net
net_of (Err r) = empty_net

abbrev pub with_node : Netlist → ℕ → ℕ → ℕ → Netlist
with_node net i k d =
    net_with net.period net.derate net.nodes net.edges (set net.kind i k) (set net.delay i d) net.from net.to net.count net.start

abbrev pub with_edge : Netlist → ℕ → ℕ → ℕ → ℕ → ℕ → Netlist
with_edge net e u v w s =
    net_with net.period net.derate net.nodes net.edges net.kind net.delay (set net.from e u) (set net.to e v) (set net.count e w) (set net.start e s)

abbrev pub at_period : Netlist → ℕ → Netlist
at_period net p = net_with p net.derate net.nodes net.edges net.kind net.delay net.from net.to net.count net.start

abbrev pub with_columns : Netlist → List ℕ → List ℕ → Netlist
with_columns net counts words = net_with net.period net.derate net.nodes net.edges net.kind net.delay net.from net.to counts words

-- A retimed netlist is written with lines of the same lengths as the netlist that was read.
abbrev pub plain : Netlist → Netlist
plain net = net

abbrev pub graph_of : Netlist → Graph
graph_of net = column_graph net.nodes net.edges net.kind net.from net.to

-- "Bit k is the value that the entered node sees at clock k."
abbrev pub regs_of : Netlist → Regs
regs_of net = record { count = λ e. get_or net.count e 0; start = λ e k. bit (get_or net.start e 0) k }

-- Hundredths "rounded to the nearest whole", "a half to the even neighbour".
unfoldable pub rounded : ℕ → ℕ
rounded x = cond (ltb 50 (x % 100)) (x / 100 + 1) (cond (eqb (x % 100) 50) (x / 100 + x / 100 % 2) (x / 100))

-- "Working delay: delay times derate, divided by 100", and rounded so. "A working delay of 0 is fine."
unfoldable pub working : ℕ → ℕ → ℕ
working delay derate = rounded (delay * derate)

abbrev pub delay_of : Netlist → ℕ → ℕ
delay_of net v = working (get_or net.delay v 0) net.derate

-- Reading: the rules 1 to 4 line by line, then 5, 6 and 7 of the whole.
--   first_line, line_of_node, line_of_edge  the numbers of the lines behind the head
--   head_right, node_right, edge_right   the bytes of a line keep its rule: 2, 3 and 4
--   head_read, node_read, edge_read      the record with the row that a line's bytes fill
--   lines_of            the record that the lines fill, or the first fault of a line
--   FanInFits, InReach  a node keeps rule 5, rule 7
--   All, Lowest         all nodes keep a rule; the lowest that does not
--   FanInsFit, WrongFanIn, AllInReach, OutOfReach    all nodes of a netlist keep rule 5, rule 7; the lowest that does not
--   Judged net s        s is what rules 5, 6 and 7 say of a netlist whose lines are right
--   Reads t s net       reading the text t says s and gives net
use Rattle.std.specs.Prelude.{◌≡◌, Bool, cond, List, [], ◌∷◌, ℕ, zero, suc, ◌+◌, ◌<◌, ◌≤◌}
use Rattle.frame.specs.Frame.{on_line, frame_at, number_at}
use Rattle.theory.specs.Graph.{Graph}
use Rattle.theory.specs.Walk.{FromInput, ToOutput}
use Rattle.netlist.specs.declared.Netlist.{Netlist}
use Rattle.netlist.specs.Answer.{Said, value, refused, whole, at_line, at_node}
use Rattle.netlist.specs.Order.{◌or_else◌, Given, GivenAt, Otherwise}
use Rattle.netlist.specs.Net.{empty_net, with_head, with_node, with_edge, graph_of}
use Rattle.netlist.specs.Circuit.{LoopIn}
use Rattle.rules.specs.Rules.{rule_of, head_fits, node_fits, edge_fits}
use Rattle.graph.specs.Columns.{fan_in}

-- ── One line ────────────────────────────────────────────────────────────────────────────────

-- Lines count from 1, and the head is the first. The line of edge E is the one behind the last.
abbrev pub first_line : Netlist → ℕ
first_line net = 2

abbrev pub line_of_node : Netlist → ℕ → ℕ
line_of_node net v = first_line net + v

abbrev pub line_of_edge : Netlist → ℕ → ℕ
line_of_edge net e = first_line net + net.nodes + e

-- "`01`, the head, 8 bytes: kind, period (2), derate in percent (1), number of nodes N (2), number of edges E (2)."
abbrev pub head_right : List ℕ → Bool
head_right bs = head_fits (number_at 0 2 bs) (number_at 2 1 bs) (number_at 3 2 bs) (number_at 5 2 bs)

abbrev pub head_read : List ℕ → Netlist
head_read bs = with_head (number_at 0 2 bs) (number_at 2 1 bs) (number_at 3 2 bs) (number_at 5 2 bs)

-- "`02`, N times, 3 bytes: kind, gate kind, delay."
abbrev pub node_right : List ℕ → Bool
node_right bs = node_fits (number_at 0 1 bs) (number_at 1 1 bs)

abbrev pub node_read : Netlist → ℕ → List ℕ → Netlist
node_read net v bs = with_node net v (number_at 0 1 bs) (number_at 1 1 bs)

-- "`03`, E times, 10 bytes: kind, node it leaves (2), node it enters (2), register count (1), start values (4)."
abbrev pub edge_right : Netlist → List ℕ → Bool
edge_right net bs = edge_fits net.nodes (graph_of net).kind (number_at 0 2 bs) (number_at 2 2 bs) (number_at 4 1 bs) (number_at 5 4 bs)

abbrev pub edge_read : Netlist → ℕ → List ℕ → Netlist
edge_read net e bs = with_edge net e (number_at 0 2 bs) (number_at 2 2 bs) (number_at 4 1 bs) (number_at 5 4 bs)

-- ── The lines in turn ───────────────────────────────────────────────────────────────────────

pub data Lines : Type 0 where
  fault : Said → Lines
  lines : Netlist → Lines

-- Nothing may follow the last line: "a line missing or surplus (the first such line)".
abbrev pub nothing_more : List ℕ → ℕ → Netlist → Lines
nothing_more [] n net = lines net
nothing_more (c ∷ l) n net = fault (at_line 1 n)

-- m more lines of edges, from edge e on line n; l is the text from there, and net what the lines before it filled.
unfoldable pub edges_from : ℕ → ℕ → ℕ → List ℕ → Netlist → Lines
edges_from zero e n l net = nothing_more l n net
edges_from (suc m) e n l net =
    on_line (frame_at 3 9 l) (fault (at_line 1 n)) λ bs rest.
    cond (edge_right net bs) (edges_from m (suc e) (suc n) rest (edge_read net e bs)) (fault (at_line 4 n))

-- m more lines of nodes, and then those of all edges.
unfoldable pub nodes_from : ℕ → ℕ → ℕ → List ℕ → Netlist → Lines
nodes_from zero i n l net = edges_from net.edges 0 n l net
nodes_from (suc m) i n l net =
    on_line (frame_at 2 2 l) (fault (at_line 1 n)) λ bs rest.
    cond (node_right bs) (nodes_from m (suc i) (suc n) rest (node_read net i bs)) (fault (at_line 3 n))

-- "Order: lines in turn, 1 before 2 to 4 on a line."
unfoldable pub lines_of : List ℕ → Lines
lines_of t =
    on_line (frame_at 1 7 t) (fault (at_line 1 1)) λ bs rest.
    cond (head_right bs) (nodes_from (number_at 3 2 bs) 0 (first_line (head_read bs)) rest (head_read bs)) (fault (at_line 2 1))

-- ── The whole ───────────────────────────────────────────────────────────────────────────────

-- Else 5: "wrong number of in-edges".
abbrev pub FanInFits : Graph → ℕ → Type 0
FanInFits G v = ((rule_of (G.kind v)).fewest ≤ fan_in G v) × (fan_in G v ≤ (rule_of (G.kind v)).most)

-- Else 7: "a node that no input reaches, or that reaches no output; a pin reaches itself" (by the walk of one node).
abbrev pub InReach : Graph → ℕ → Type 0
InReach G v = FromInput G v × ToOutput G v

-- All below n keep the rule; v is the lowest that does not.
abbrev pub All : (ℕ → Type 0) → ℕ → Type 0
All Rule n = (v : ℕ) → v < n → Rule v

pub record Lowest (Rule : ℕ → Type 0) (n v : ℕ) : Type 0 where
  pub there : v < n
  pub breaks : ¬ Rule v
  pub before : All Rule v

abbrev pub FanInsFit : Netlist → Type 0
FanInsFit net = All (FanInFits (graph_of net)) net.nodes

abbrev pub WrongFanIn : Netlist → ℕ → Type 0
WrongFanIn net v = Lowest (FanInFits (graph_of net)) net.nodes v

abbrev pub AllInReach : Netlist → Type 0
AllInReach net = All (InReach (graph_of net)) net.nodes

abbrev pub OutOfReach : Netlist → ℕ → Type 0
OutOfReach net v = Lowest (InReach (graph_of net)) net.nodes v

-- "then 5, 6, 7". What reading says where it refuses nothing is 0, as it writes no bytes.
abbrev pub Judged : Netlist → Said → Type 0
Judged net =
    GivenAt (WrongFanIn net) (at_node 5)
    or_else Given (LoopIn net) (whole 6)
    or_else GivenAt (OutOfReach net) (at_node 7)
    or_else Otherwise (value 0)

-- A refusal gives an empty record.
abbrev pub kept : Said → Netlist → Netlist
kept (value n) net = net
kept (refused q k p) net = empty_net

pub data Reads (t : List ℕ) (s : Said) (net : Netlist) : Type 0 where
  faulty : lines_of t ≡ fault s → net ≡ empty_net → Reads t s net
  judged : (read : Netlist) → lines_of t ≡ lines read → Judged read s → net ≡ kept s read → Reads t s net

-- The theorems of reading and writing, beside the calls' own contracts. Each is a type; proofs/theorems has a term of it.
--   SomeReading, OneReading                every text has exactly one outcome
--   SomeWriting, OneWriting                a record has exactly one writing into each buffer
--   head_test, node_test, edge_test        a line of a record keeps its rule
--   Fit, Clean                             all its lines do; the rows past them are 0
--   LinesFact, FaultFact, FaultPlace       when the lines are right, and which line is refused with which number
--   RefusalFacts                           when 5, 6, 7 and nothing is given
--   MoreDecidesNothing                     bytes past the 25,106th are read by nothing
--   RecordFact                             a record's lines: never refused 1, and right exactly when it keeps the rules
--   RecordFaults, RecordJudged             which rule of a line, and which of 5, 6 and 7, a record itself breaks
--   SoundWritten                           a record that keeps all rules is written, and no other
--   ReadIsSound                            what reads is a sound circuit
--   RoundTripText, RoundTripNetlist        demand 2
--   NearestEven, HalfCards                 a working delay is the nearest whole number, the even one of two; the examples
--   RecordRowsUnread                       rows past the netlist's are read by nothing
--   SomeWalk, OneWalk                      every text has a walk of so many passes, and its marks are determined
--   WalkBegins, WalkEnds                   what is marked before the first pass, and where a pass marked nothing
use Rattle.std.specs.Prelude.{◌≡◌, Bool, true, false, ◌↔◌, List, [], ◌++◌, ℕ, ◌+◌, ◌*◌, ◌%◌, ◌<◌, ◌≤◌, length, get_or, take, drop}
use Rattle.frame.specs.Frame.{bad, frame_at, line}
use Rattle.theory.specs.Walk.{FromInput}
use Rattle.graph.specs.declared.layers.Layer.{Layer}
use Rattle.graph.specs.Columns.{flag}
use Rattle.graph.specs.Layers.{Told}
use Rattle.netlist.specs.declared.Netlist.{Netlist}
use Rattle.netlist.specs.Answer.{Said, value, whole, at_node, at_line}
use Rattle.netlist.specs.Net.{rounded, working, graph_of}
use Rattle.netlist.specs.Circuit.{LoopIn, SoundIn}
use Rattle.rules.specs.Rules.{head_fits, node_fits, edge_fits}
use Rattle.netlist.specs.Read.{line_of_node, line_of_edge, head_right, node_right, edge_right, fault, lines, lines_of, Judged, Reads, AllInReach, FanInsFit, OutOfReach, WrongFanIn}
use Rattle.netlist.specs.Write.{head_line, node_line, edge_line, joined, text_of, Writes}
use Rattle.netlist.specs.Walk.{Walks}

-- ── No answer is free ───────────────────────────────────────────────────────────────────────

-- Every text has an outcome, and one only.
abbrev pub SomeReading : Type 0
SomeReading = (t : List ℕ) → (s : Said) × (net : Netlist) × Reads t s net

abbrev pub OneReading : Type 0
OneReading = (t : List ℕ) (s s' : Said) (net net' : Netlist) → Reads t s net → Reads t s' net' → (s ≡ s') × (net ≡ net')

-- So has a record to be written, with what the buffer held.
abbrev pub SomeWriting : Type 0
SomeWriting = (net : Netlist) (old : List ℕ) → (s : Said) × (new : List ℕ) × Writes net old s new

abbrev pub OneWriting : Type 0
OneWriting = (net : Netlist) (old : List ℕ) (s s' : Said) (new new' : List ℕ) → Writes net old s new → Writes net old s' new' → (s ≡ s') × (new ≡ new')

-- ── Each number is given exactly when its fact holds and no earlier one does ────────────────

-- A record's head, node v and edge e keep their rules: 2, 3 and 4.
abbrev pub head_test : Netlist → Bool
head_test net = head_fits net.period net.derate net.nodes net.edges

abbrev pub node_test : Netlist → ℕ → Bool
node_test net v = node_fits (get_or net.kind v 0) (get_or net.delay v 0)

abbrev pub edge_test : Netlist → ℕ → Bool
edge_test net e = edge_fits net.nodes (graph_of net).kind (get_or net.from e 0) (get_or net.to e 0) (get_or net.count e 0) (get_or net.start e 0)

-- The head, the first n nodes and the first m edges do.
pub record FitTo (net : Netlist) (n m : ℕ) : Type 0 where
  pub head : head_test net ≡ true
  pub node : (v : ℕ) → v < n → node_test net v ≡ true
  pub edge : (e : ℕ) → e < m → edge_test net e ≡ true

abbrev pub Fit : Netlist → Type 0
Fit net = FitTo net net.nodes net.edges

-- "record rows past them are … made 0": columns of 512 and 1,024 rows, 0 from row n of the nodes and row m of the edges on.
pub record CleanTo (net : Netlist) (n m : ℕ) : Type 0 where
  pub kinds : (length net.kind ≡ 512) × (length net.delay ≡ 512)
  pub ends : (length net.from ≡ 1024) × (length net.to ≡ 1024) × (length net.count ≡ 1024) × (length net.start ≡ 1024)
  pub node : (v : ℕ) → n ≤ v → (get_or net.kind v 0 ≡ 0) × (get_or net.delay v 0 ≡ 0)
  pub edge : (e : ℕ) → m ≤ e → (get_or net.from e 0 ≡ 0) × (get_or net.to e 0 ≡ 0) × (get_or net.count e 0 ≡ 0) × (get_or net.start e 0 ≡ 0)

abbrev pub Clean : Netlist → Type 0
Clean net = CleanTo net net.nodes net.edges

-- No line has a fault exactly where the text is that of a netlist whose lines keep the rules.
abbrev pub LinesFact : Type 0
LinesFact = (t : List ℕ) (net : Netlist) → (lines_of t ≡ lines net) ↔ (Fit net × Clean net × (t ≡ text_of net))

-- The lines before a node's and before an edge's.
abbrev pub to_node : Netlist → ℕ → List ℕ
to_node net v = head_line net ++ joined (node_line net) v

abbrev pub to_edge : Netlist → ℕ → List ℕ
to_edge net e = head_line net ++ joined (node_line net) net.nodes ++ joined (edge_line net) e

-- The first line that has a fault, and which. What stands before it is lines of a netlist that keep their rules; `rest` begins with the faulty line.
pub data FaultAt (t : List ℕ) : ℕ → ℕ → Type 0 where
  head_frame : frame_at 1 7 t ≡ bad → FaultAt t 1 1
  head_range : (bs rest : List ℕ) → frame_at 1 7 t ≡ line bs rest
      → head_right bs ≡ false → FaultAt t 2 1
  node_frame : (net : Netlist) (v : ℕ) (rest : List ℕ) → FitTo net v 0 → v < net.nodes → t ≡ to_node net v ++ rest → frame_at 2 2 rest ≡ bad → FaultAt t 1 (line_of_node net v)
  node_rule : (net : Netlist) (v : ℕ) (rest bs more : List ℕ) → FitTo net v 0 → v < net.nodes → t ≡ to_node net v ++ rest → frame_at 2 2 rest ≡ line bs more
      → node_right bs ≡ false → FaultAt t 3 (line_of_node net v)
  edge_frame : (net : Netlist) (e : ℕ) (rest : List ℕ) → FitTo net net.nodes e → e < net.edges → t ≡ to_edge net e ++ rest → frame_at 3 9 rest ≡ bad
      → FaultAt t 1 (line_of_edge net e)
  edge_rule : (net : Netlist) (e : ℕ) (rest bs more : List ℕ) → FitTo net net.nodes e → e < net.edges → t ≡ to_edge net e ++ rest → frame_at 3 9 rest ≡ line bs more
      → edge_right net bs ≡ false → FaultAt t 4 (line_of_edge net e)
  surplus : (net : Netlist) (rest : List ℕ) → FitTo net net.nodes net.edges → t ≡ text_of net ++ rest → ¬ (rest ≡ []) → FaultAt t 1 (line_of_edge net net.edges)

abbrev pub FaultFact : Type 0
FaultFact = (t : List ℕ) (q n : ℕ) → (lines_of t ≡ fault (at_line q n)) ↔ FaultAt t q n

-- A fault of the lines is always at a line.
abbrev pub FaultPlace : Type 0
FaultPlace = (t : List ℕ) (s : Said) → lines_of t ≡ fault s → (q : ℕ) × (n : ℕ) × (s ≡ at_line q n) × FaultAt t q n

-- 5, 6, 7 and success, of a text whose lines have no fault.
pub record WholeFacts (t : List ℕ) (s : Said) (net read : Netlist) (h : lines_of t ≡ lines read) (r : Reads t s net) : Type 0 where
  pub five : (v : ℕ) → (s ≡ at_node 5 v) ↔ WrongFanIn read v
  pub six : (s ≡ whole 6) ↔ (FanInsFit read × LoopIn read)
  pub seven : (v : ℕ) → (s ≡ at_node 7 v)
      ↔ (FanInsFit read × (¬ LoopIn read) × OutOfReach read v)
  pub none : (s ≡ value 0)
      ↔ (FanInsFit read × (¬ LoopIn read) × AllInReach read)

abbrev pub RefusalFacts : Type 0
RefusalFacts = (t : List ℕ) (s : Said) (net read : Netlist) (h : lines_of t ≡ lines read) (r : Reads t s net) → WholeFacts t s net read h r

-- "a text of up to 32,768 bytes (more decides nothing)": the longest text that reads has 25,105 (a head of 17, 512 nodes of 7 each, 1,024 edges of 21 each).
-- A longer one is refused by its first 25,106 bytes, and no line is looked at past them.
abbrev pub MoreDecidesNothing : Type 0
MoreDecidesNothing = (t : List ℕ) (n : ℕ) → 25105 < n → (s : Said) (net : Netlist) → Reads t s net ↔ Reads (take n t) s net

-- ── Records ─────────────────────────────────────────────────────────────────────────────────

-- "A netlist is its head, its N nodes and its E edges."
pub record Same (net net' : Netlist) : Type 0 where
  pub head : (net.period ≡ net'.period) × (net.derate ≡ net'.derate) × (net.nodes ≡ net'.nodes) × (net.edges ≡ net'.edges)
  pub node : (v : ℕ) → v < net.nodes → (get_or net.kind v 0 ≡ get_or net'.kind v 0) × (get_or net.delay v 0 ≡ get_or net'.delay v 0)
  pub edge : (e : ℕ) → e < net.edges
      → (get_or net.from e 0 ≡ get_or net'.from e 0) × (get_or net.to e 0 ≡ get_or net'.to e 0)
      × (get_or net.count e 0 ≡ get_or net'.count e 0) × (get_or net.start e 0 ≡ get_or net'.start e 0)

-- What a record of the types in src/lib.rt can hold.
pub record Typed (net : Netlist) : Type 0 where
  pub head : (net.period < 65536) × (net.derate < 256) × (net.nodes < 65536) × (net.edges < 65536)
  pub node : (v : ℕ) → (get_or net.kind v 0 < 256) × (get_or net.delay v 0 < 256)
  pub edge : (e : ℕ) → (get_or net.from e 0 < 65536) × (get_or net.to e 0 < 65536) × (get_or net.count e 0 < 256) × (get_or net.start e 0 < 4294967296)

-- "check 2 to 7 as if its lines were read": a record's lines are never refused 1, and are refused nothing exactly where they keep the rules.
abbrev pub RecordFact : Type 0
RecordFact = (net : Netlist) → Typed net
    → ((n : ℕ) → ¬ (lines_of (text_of net) ≡ fault (at_line 1 n)))
    × (((back : Netlist) × (lines_of (text_of net) ≡ lines back)) ↔ Fit net)
    × ((back : Netlist) → lines_of (text_of net) ≡ lines back → Same net back × Clean back)

-- The first line of a record that breaks its rule: 2, 3 or 4, and its number.
pub data RecordFault (net : Netlist) : ℕ → ℕ → Type 0 where
  bad_head : head_test net ≡ false → RecordFault net 2 1
  bad_node : (v : ℕ) → FitTo net v 0 → v < net.nodes → node_test net v ≡ false → RecordFault net 3 (line_of_node net v)
  bad_edge : (e : ℕ) → FitTo net net.nodes e → e < net.edges → edge_test net e ≡ false → RecordFault net 4 (line_of_edge net e)

abbrev pub RecordFaults : Type 0
RecordFaults = (net : Netlist) → Typed net → (q n : ℕ) → (lines_of (text_of net) ≡ fault (at_line q n)) ↔ RecordFault net q n

-- Of a record whose lines keep their rules, 5, 6, 7 or nothing is said as they hold of the record itself.
abbrev pub RecordJudged : Type 0
RecordJudged = (net : Netlist) → Fit net → (s : Said) (back : Netlist) → Reads (text_of net) s back → Judged net s

-- The record itself keeps the rules 2 to 7.
pub record Keeps (net : Netlist) : Type 0 where
  pub lines : Fit net
  pub fan_in : FanInsFit net
  pub no_loop : ¬ LoopIn net
  pub joined : AllInReach net

-- "Where nothing is broken the job is done": a record is written exactly where it keeps the rules and there is room; then it is its text that is written.
abbrev pub SoundWritten : Type 0
SoundWritten = (net : Netlist) → Typed net → (old : List ℕ) (n : ℕ) (new : List ℕ)
    → Writes net old (value n) new
    ↔ (Keeps net × (length (text_of net) ≤ length old) × (n ≡ length (text_of net)) × (new ≡ text_of net ++ drop (length (text_of net)) old))

-- ── Sound netlists ──────────────────────────────────────────────────────────────────────────

-- What reads is a sound circuit, so the theory speaks of it.
abbrev pub ReadIsSound : Type 0
ReadIsSound = (t : List ℕ) (net : Netlist) → Reads t (value 0) net → SoundIn net

-- ── Working delays ──────────────────────────────────────────────────────────────────────────

-- Of hundredths: no whole number is nearer, and where two are equally near it is the even one.
abbrev pub NearestEven : Type 0
NearestEven = (x : ℕ) → (100 * rounded x ≤ x + 50) × (x ≤ 100 * rounded x + 50) × (x % 100 ≡ 50 → rounded x % 2 ≡ 0)

-- "Derate 50 makes delay 1 into 0, delay 3 into 2 and delay 5 into 2."
abbrev pub HalfCards : Type 0
HalfCards = (working 1 50 ≡ 0) × (working 3 50 ≡ 2) × (working 5 50 ≡ 2) × (working 255 250 ≡ 638) × (working 253 250 ≡ 632)

-- ── Demand 2 ────────────────────────────────────────────────────────────────────────────────

-- "Text read and written again is the same text."
abbrev pub RoundTripText : Type 0
RoundTripText = (t : List ℕ) (net : Netlist) (old : List ℕ) (s : Said) (new : List ℕ) → Reads t (value 0) net → length t ≤ length old
    → Writes net old s new → (s ≡ value (length t)) × (new ≡ t ++ drop (length t) old)

-- "a sound netlist written and read again is the same netlist": it is sound where it keeps the rules, which is where it can be written (SoundWritten).
abbrev pub RoundTripNetlist : Type 0
RoundTripNetlist = (net : Netlist) (old new : List ℕ) (n : ℕ) → Typed net → Writes net old (value n) new
    → (back : Netlist) × Reads (take n new) (value 0) back × Same net back × (Clean net → back ≡ net)

-- "record rows past them are read by nothing".
abbrev pub RecordRowsUnread : Type 0
RecordRowsUnread = (net net' : Netlist) → Same net net' → (old : List ℕ) (s : Said) (new : List ℕ) → Writes net old s new → Writes net' old s new

-- ── The walk from the inputs ────────────────────────────────────────────────────────────────

abbrev pub SomeWalk : Type 0
SomeWalk = (t : List ℕ) (most : ℕ) → (s : Said) × (layer : Layer) × Walks t most s layer

-- One answer, one number of passes, and the same mark of each node.
abbrev pub OneWalk : Type 0
OneWalk = (t : List ℕ) (most : ℕ) (s s' : Said) (layer layer' : Layer) → Walks t most s layer → Walks t most s' layer'
    → (s ≡ s') × (layer.passes ≡ layer'.passes) × ((n v : ℕ) → s ≡ value n → v < n → flag layer.marks v ≡ flag layer'.marks v)

-- "before the first just the inputs are marked"
abbrev pub WalkBegins : Type 0
WalkBegins = (t : List ℕ) (net : Netlist) (most : ℕ) (s : Said) (layer : Layer) → lines_of t ≡ lines net → Walks t most s layer → layer.passes ≡ 0
    → (v : ℕ) → v < net.nodes → Told (flag layer.marks v) (get_or net.kind v 0 ≡ 0)

-- Where fewer passes were made than were asked for, all that an input reaches is marked: what rule 7 asks, and what any more passes would mark.
abbrev pub WalkEnds : Type 0
WalkEnds = (t : List ℕ) (net : Netlist) (most : ℕ) (s : Said) (layer : Layer) → lines_of t ≡ lines net → Walks t most s layer → layer.passes < most
    → (v : ℕ) → v < net.nodes → Told (flag layer.marks v) (FromInput (graph_of net) v)

-- A round: arrival times under the labels, each late node's label raised, and the order parted.
--   Low                 labels that can be added to
--   EmptyUnder          an edge that is empty under the labels
--   LabelOrder          a list of all nodes, each after the source of every edge that enters it and is empty under the labels
--   HeldAt, Held        0 for an edge that is empty under the labels, and only for such; so for all edges
--   Readable            edges, and their sources are nodes
--   LatestTime          the latest time of a source of an edge that is empty under the labels, 0 where there is none
--   Arrived             the arrival times
--   LatePin             a pin that is late
--   Nodes               a list of nodes
--   Lifted              late labels go up by one, the others stay
--   LateBy, OnTime      a node that is late; one that is not
--   Parts               the first n of an order in two lists: those that are late, and the others
--   Parted              both in one list, the late ones first
use Rattle.std.specs.Prelude.{◌≡◌, List, ◌++◌, ◌⊎◌, ℕ, ◌+◌, ◌≤◌, ◌<◌, length, take}
use Rattle.theory.specs.inner.Labels.{Empty}
use Rattle.theory.specs.inner.Arrival.{Arrival}
use Rattle.graph.specs.Columns.{at}
use Rattle.graph.specs.inner.Sort.{Stands}
use Rattle.graph.specs.inner.Lists.{Filtered}
use Rattle.netlist.specs.declared.Netlist.{Netlist}
use Rattle.netlist.specs.Net.{graph_of, regs_of, delay_of}
use Rattle.lags.specs.inner.Wires.{NodeList}

abbrev pub Low : ℕ → List ℕ → Type 0
Low nodes lab = (v : ℕ) → v < nodes → at lab v < 32768

-- ── The order ───────────────────────────────────────────────────────────────────────────────

abbrev pub EmptyUnder : Netlist → List ℕ → ℕ → Type 0
EmptyUnder net lab e = Empty (graph_of net) (regs_of net).count (at lab) e

pub record LabelOrder (net : Netlist) (lab order : List ℕ) : Type 0 where
  pub listed : NodeList net order
  pub sources_first : (p e : ℕ) → p < net.nodes → e < net.edges → at net.to e ≡ at order p → EmptyUnder net lab e → Stands order p (at net.from e)

abbrev pub HeldAt : ℕ → ℕ → ℕ → ℕ → Type 0
HeldAt start count end held = (start ≡ count + end → held ≡ 0) × (held ≡ 0 → start ≡ count + end)

abbrev pub Held : Netlist → List ℕ → List ℕ → Type 0
Held net lab held = (e : ℕ) → e < net.edges → HeldAt (at lab (at net.from e)) (at net.count e) (at lab (at net.to e)) (at held e)

-- ── The times ───────────────────────────────────────────────────────────────────────────────

abbrev pub Readable : Netlist → List ℕ → Type 0
Readable net ins = (k : ℕ) → k < length ins → (at ins k < 1024) × (at net.from (at ins k) < 512)

-- Of the first n of the edges. `here` is the label of the node that they enter.
pub record LatestTime (net : Netlist) (ins lab time : List ℕ) (here n best : ℕ) : Type 0 where
  pub above : (k : ℕ) → k < n → at lab (at net.from (at ins k)) ≡ at net.count (at ins k) + here → at time (at net.from (at ins k)) ≤ best
  pub cause : (best ≡ 0)
      ⊎ ((k : ℕ) × (k < n) × (at lab (at net.from (at ins k)) ≡ at net.count (at ins k) + here) × (at time (at net.from (at ins k)) ≡ best))

abbrev pub Arrived : Netlist → ℕ → List ℕ → List ℕ → Type 0
Arrived net period lab time = Arrival (graph_of net) (regs_of net).count (delay_of net) period (at lab) (at time)

-- ── The late nodes ──────────────────────────────────────────────────────────────────────────

pub record LatePin (kind time : List ℕ) (nodes period : ℕ) : Type 0 where
  pub node : ℕ
  pub within : node < nodes
  pub pin : at kind node ≤ 1
  pub late : period < at time node

-- A list of nodes, and no more than there may be.
pub record Nodes (nodes : ℕ) (order : List ℕ) : Type 0 where
  pub few : nodes ≤ 512
  pub node : (p : ℕ) → p < nodes → at order p < nodes

pub record Lifted (nodes period : ℕ) (time before after : List ℕ) : Type 0 where
  pub up : (v : ℕ) → v < nodes → period < at time v → at after v ≡ at before v + 1
  pub stays : (v : ℕ) → v < nodes → at time v ≤ period → at after v ≡ at before v

abbrev pub LateBy : List ℕ → ℕ → ℕ → Type 0
LateBy time period v = period < at time v

abbrev pub OnTime : List ℕ → ℕ → ℕ → Type 0
OnTime time period v = at time v ≤ period

pub record Parts (order time : List ℕ) (period n : ℕ) (late rest : List ℕ) : Type 0 where
  pub late_part : Filtered (LateBy time period) order n late (length late)
  pub rest_part : Filtered (OnTime time period) order n rest (length rest)
  pub all : length late + length rest ≡ n

pub record Parted (order time : List ℕ) (period nodes : ℕ) (new : List ℕ) : Type 0 where
  pub late : List ℕ
  pub rest : List ℕ
  pub parts : Parts order time period nodes late rest
  pub joined : take nodes new ≡ late ++ rest

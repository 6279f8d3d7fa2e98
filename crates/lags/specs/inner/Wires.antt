-- What the climb and the rounds go by.
--   Delayed             the working delays, and that they are small
--   NodeList            a list of all nodes
--   Grounded            what no period plays a part in
--   Basis               a netlist that reads, what no period plays a part in, and a period
--   Ready               so for a query
--   Entering            a list of the edges that enter a node
use Rattle.std.specs.Prelude.{◌≡◌, List, ℕ, ◌<◌, ◌≤◌, length}
use Rattle.graph.specs.Columns.{at}
use Rattle.graph.specs.inner.Sort.{Stands, EdgesBy}
use Rattle.netlist.specs.declared.Netlist.{Netlist}
use Rattle.netlist.specs.Net.{working}
use Rattle.lags.specs.declared.Ground.{Ground}
use Rattle.lags.specs.declared.query.Query.{Query}
use Rattle.lags.specs.inner.Lags.{Sure}

pub record Delayed (delay : List ℕ) (derate nodes : ℕ) (r : List ℕ) : Type 0 where
  pub exact : (v : ℕ) → v < nodes → at r v ≡ working (at delay v) derate
  pub small : (v : ℕ) → v < nodes → at r v < 1000

pub record NodeList (net : Netlist) (order : List ℕ) : Type 0 where
  pub node : (p : ℕ) → p < net.nodes → at order p < net.nodes
  pub every : (v : ℕ) → v < net.nodes → Stands order net.nodes v

pub record Grounded (net : Netlist) (g : Ground) : Type 0 where
  pub wires : EdgesBy net.to net.nodes net.edges g.ins.list g.ins.begin
  pub order_rows : net.nodes ≤ length g.order
  pub nodes : NodeList net g.order
  pub delayed : Delayed net.delay net.derate net.nodes g.delay

pub record Basis (net : Netlist) (g : Ground) (period : ℕ) : Type 0 where
  pub sure : Sure net
  pub ground : Grounded net g
  pub period_small : period < 1000000

abbrev pub Ready : Query → Type 0
Ready q = Basis q.net.now q.ground.now q.period

pub record Entering (net : Netlist) (v : ℕ) (ins : List ℕ) : Type 0 where
  pub edge : (k : ℕ) → k < length ins → at ins k < net.edges
  pub ends : (k : ℕ) → k < length ins → at net.to (at ins k) ≡ v
  pub every : (e : ℕ) → e < net.edges → at net.to e ≡ v → Stands ins (length ins) e

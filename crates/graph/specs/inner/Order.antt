-- The evaluation order, node by node. An edge is open while it has no register and the node that it leaves has not been taken yet.
--   OpenInto            an open edge enters v
--   Waiting             each of the first n nodes stands in the order, or an open edge enters it
--   Tried               what `place` does: v joins the order, or it stands there already or waits
--   Stage               the order so far
--   Taking              the order so far, while the node u of it is taken
--   Taken               what becomes of it where the edges at the first k places of `out`, which leave u, are passed
--   Going               the first i nodes of the order are taken
--   Found               what `order_of` finds: an order of all nodes, or a loop without a register
use Rattle.std.specs.Prelude.{◌≡◌, true, false, List, ℕ, ◌+◌, ◌<◌, ◌≤◌, length, set}
use Rattle.theory.specs.Walk.{Loop}
use Rattle.graph.specs.declared.wires.Wires.{Wires}
use Rattle.graph.specs.declared.both_ways.BothWays.{BothWays}
use Rattle.graph.specs.declared.order.Placing.{Placing}
use Rattle.graph.specs.Columns.{at, flag}
use Rattle.graph.specs.Wires.{wires_graph}
use Rattle.graph.specs.inner.Lists.{Listed}
use Rattle.graph.specs.inner.Sort.{Stands, Ordered}

-- ── One node ────────────────────────────────────────────────────────────────────────────────

pub record OpenInto (g : BothWays) (p : Placing) (v : ℕ) : Type 0 where
  pub edge : ℕ
  pub within : edge < g.wires.edges
  pub enters : at g.wires.to.now edge ≡ v
  pub is_open : flag p.is_open edge ≡ true

abbrev pub Waiting : BothWays → Placing → ℕ → Type 0
Waiting g p n = (v : ℕ) → v < n → flag p.mark v ≡ false → OpenInto g p v

pub data Tried (g : BothWays) (p : Placing) (v : ℕ) (new : Placing) : Type 0 where
  joins : flag p.mark v ≡ false → ¬ OpenInto g p v
      → new ≡ record p { placed = p.placed + 1; order = set p.order p.placed v; mark = set p.mark v true } → Tried g p v new
  stays : (flag p.mark v ≡ false → OpenInto g p v) → new ≡ p → Tried g p v new

-- ── All nodes ───────────────────────────────────────────────────────────────────────────────

-- `passed`: an edge without a register that is not open leaves a node of the order.
pub record Stage (g : BothWays) (p : Placing) : Type 0 where
  pub order_rows : length p.order ≡ 512
  pub mark_rows : length p.mark ≡ 512
  pub open_rows : length p.is_open ≡ 1024
  pub listed : Listed g.wires.nodes p.placed p.order p.mark
  pub bare : (e : ℕ) → e < g.wires.edges → flag p.is_open e ≡ true → at g.count.now e ≡ 0
  pub passed : (e : ℕ) → e < g.wires.edges → at g.count.now e ≡ 0 → flag p.is_open e ≡ false → Stands p.order p.placed (at g.wires.from.now e)
  pub sources_first : (i e : ℕ) → i < p.placed → e < g.wires.edges → at g.wires.to.now e ≡ at p.order i → at g.count.now e ≡ 0 → Stands p.order i (at g.wires.from.now e)

pub record Taking (g : BothWays) (p : Placing) (u : ℕ) : Type 0 where
  pub stage : Stage g p
  pub waiting : Waiting g p g.wires.nodes
  pub taken : Stands p.order p.placed u

-- Edges that are not open stay so, and so do the places in the order.
pub record Taken (g : BothWays) (out : List ℕ) (p : Placing) (u : ℕ) (new : Placing) (k : ℕ) : Type 0 where
  pub taking : Taking g new u
  pub more : p.placed ≤ new.placed
  pub same : (i : ℕ) → i < p.placed → at new.order i ≡ at p.order i
  pub kept : (e : ℕ) → flag p.is_open e ≡ false → flag new.is_open e ≡ false
  pub gone : (j : ℕ) → j < k → flag new.is_open (at out j) ≡ false

pub record Going (g : BothWays) (p : Placing) (i : ℕ) : Type 0 where
  pub stage : Stage g p
  pub waiting : Waiting g p g.wires.nodes
  pub spent : (j e : ℕ) → j < i → e < g.wires.edges → at g.wires.from.now e ≡ at p.order j → flag p.is_open e ≡ false
  pub low : i ≤ p.placed

pub record Found (w : Wires) (count : List ℕ) (p : Placing) : Type 0 where
  pub few : p.placed ≤ w.nodes
  pub whole : p.placed ≡ w.nodes → Ordered w.nodes w.edges w.from.now w.to.now count p.order
  pub stuck : p.placed < w.nodes → (kind : List ℕ) → Loop (wires_graph kind w) (at count)

-- Passes over a queue of the marked nodes: what the functions promise each other.
--   Queued              the first `hi` places of the queue hold the marked nodes, each once
--   with_mark           v gets a mark and the next place of the queue, unless it has a mark
--   EndOf               v is the end of an edge at one of the first k places of `links`
--   Spread              marks that spread to the nodes of `Fed`, and to no other: these join the queue
--   Steady              a layer between two passes: each edge that leaves a node before place `lo` ends in a marked one
--   AfterPasses         a layer after so many passes as it says: each but the last marked something; the last marked what stands from place lo on
--   PassLeaves          what `pass` does
use Rattle.std.specs.Prelude.{◌≡◌, ◌⊎◌, cond, true, List, ℕ, ◌+◌, ◌<◌, ◌≤◌, length, set}
use Rattle.graph.specs.declared.layers.Layer.{Layer}
use Rattle.graph.specs.declared.wires.Wires.{Wires}
use Rattle.graph.specs.Columns.{at, flag}
use Rattle.graph.specs.Layers.{FromWithin, Layered, NewAt}
use Rattle.graph.specs.Wires.{wires_graph}
use Rattle.graph.specs.inner.Sort.{Stands}
use Rattle.graph.specs.inner.Lists.{Listed}

-- ── The queue ───────────────────────────────────────────────────────────────────────────────

pub record Queued (nodes : ℕ) (layer : Layer) : Type 0 where
  pub nodes_fit : nodes ≤ 512
  pub queue_rows : length layer.queue ≡ 512
  pub mark_rows : length layer.marks ≡ 512
  pub listed : Listed nodes layer.hi layer.queue layer.marks

abbrev pub with_mark : Layer → ℕ → Layer
with_mark l v = cond (flag l.marks v) l (record l { hi = l.hi + 1; queue = set l.queue l.hi v; marks = set l.marks v true })

pub record EndOf (to links : List ℕ) (k v : ℕ) : Type 0 where
  pub place : ℕ
  pub below : place < k
  pub ends : at to (at links place) ≡ v

pub record Spread (nodes : ℕ) (Fed : ℕ → Type 0) (old new : Layer) : Type 0 where
  pub queued : Queued nodes new
  pub passes : new.passes ≡ old.passes
  pub begins : new.lo ≡ old.lo
  pub longer : old.hi ≤ new.hi
  pub front : (i : ℕ) → i < old.hi → at new.queue i ≡ at old.queue i
  pub stay : (v : ℕ) → v < nodes → flag old.marks v ≡ true → flag new.marks v ≡ true
  pub fed : (v : ℕ) → v < nodes → Fed v → flag new.marks v ≡ true
  pub only : (v : ℕ) → v < nodes → flag new.marks v ≡ true → (flag old.marks v ≡ true) ⊎ Fed v

-- ── Layers ──────────────────────────────────────────────────────────────────────────────────

pub record Steady (w : Wires) (layer : Layer) : Type 0 where
  pub queued : Queued w.nodes layer
  pub low : layer.lo ≤ layer.hi
  pub few : layer.passes ≤ layer.lo
  pub past : (e : ℕ) → e < w.edges → Stands layer.queue layer.lo (at w.from.now e) → flag layer.marks (at w.to.now e) ≡ true

pub record AfterPasses (w : Wires) (kind : List ℕ) (pin : ℕ) (layer : Layer) : Type 0 where
  pub steady : Steady w layer
  pub layered : Layered (wires_graph kind w) pin layer.passes layer.marks
  pub going : (n : ℕ) → n < layer.passes → NewAt (wires_graph kind w) pin n
  pub early : (i : ℕ) → i < layer.lo → (m : ℕ) × (m < layer.passes) × FromWithin (wires_graph kind w) pin m (at layer.queue i)
  pub late : (i m : ℕ) → layer.lo ≤ i → i < layer.hi → m < layer.passes → ¬ FromWithin (wires_graph kind w) pin m (at layer.queue i)

-- Gate kinds are nothing to a pass: whichever pin the marks spread from, they spread over one edge more.
pub record PassLeaves (w : Wires) (before after : Layer) : Type 0 where
  pub passes : after.passes ≡ before.passes + 1
  pub goes_on : after.lo ≡ before.hi
  pub steady : Steady w after
  pub early : (i : ℕ) → i < after.lo → flag before.marks (at after.queue i) ≡ true
  pub late : (i : ℕ) → after.lo ≤ i → i < after.hi → ¬ (flag before.marks (at after.queue i) ≡ true)
  pub layered : (kind : List ℕ) (pin : ℕ) → Layered (wires_graph kind w) pin before.passes before.marks
      → Layered (wires_graph kind w) pin after.passes after.marks

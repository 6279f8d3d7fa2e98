-- Reach in passes: before the first pass the nodes of a kind are marked, and each pass marks those that an edge from a marked node enters.
--   Told b P                b says whether P holds
--   FromWithin G k n v      a node of kind k reaches v over n edges at most
--   Layered G k n marks     the marked nodes are exactly those
--   NewAt G k n             some node is reached over n edges and over no fewer: pass n marks something
--   LayerFrom G k most layer    what a walk from the nodes of kind k leaves after `most` passes, or after the first that marks nothing
-- Request F-5.
use Rattle.std.specs.Prelude.{◌≡◌, Bool, true, false, List, ℕ, ◌<◌, ◌≤◌}
use Rattle.theory.specs.Graph.{Graph}
use Rattle.theory.specs.Walk.{Walk, walk_steps}
use Rattle.graph.specs.declared.layers.Layer.{Layer}
use Rattle.graph.specs.Columns.{flag}

abbrev pub Told : Bool → Type 0 → Type 0
Told true P = P
Told false P = ¬ P

pub record FromWithin (G : Graph) (k n v : ℕ) : Type 0 where
  pub start : ℕ
  pub kind : G.kind start ≡ k
  pub walk : Walk G start v
  pub few : walk_steps walk ≤ n

-- "before the first just the inputs are marked, after pass k exactly the nodes that some input reaches over at most k edges". Here n is the pass, and k the kind, which is 0 for inputs.
abbrev pub Layered : Graph → ℕ → ℕ → List Bool → Type 0
Layered G k n marks = (v : ℕ) → v < G.nodes → Told (flag marks v) (FromWithin G k n v)

pub record NewAt (G : Graph) (k n : ℕ) : Type 0 where
  pub node : ℕ
  pub there : node < G.nodes
  pub reached : FromWithin G k n node
  pub first : (m : ℕ) → m < n → ¬ FromWithin G k m node

-- A pass is made only after one that marked something, and fewer than `most` only where the last marked nothing.
pub record LayerFrom (G : Graph) (k most : ℕ) (layer : Layer) : Type 0 where
  pub few : layer.passes ≤ most
  pub layered : Layered G k layer.passes layer.marks
  pub going : (n : ℕ) → n < layer.passes → NewAt G k n
  pub ended : layer.passes < most → ¬ NewAt G k layer.passes

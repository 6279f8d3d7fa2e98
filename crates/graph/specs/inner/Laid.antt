-- What the functions over columns ask for and find.
--   reverse G           every edge turned round
--   From G k v          a walk from a node of kind k to v
--   Laid                the columns have their rows, and each edge joins two nodes
use Rattle.std.specs.Prelude.{◌≡◌, List, ℕ, ◌<◌, ◌≤◌, length}
use Rattle.theory.specs.Graph.{Graph}
use Rattle.theory.specs.Walk.{Walk}
use Rattle.graph.specs.Columns.{at}

abbrev pub reverse : Graph → Graph
reverse G = record { nodes = G.nodes; edges = G.edges; kind = G.kind; src = G.dst; dst = G.src }

pub record From (G : Graph) (k v : ℕ) : Type 0 where
  pub start : ℕ
  pub kind : G.kind start ≡ k
  pub walk : Walk G start v

pub record Laid (nodes edges : ℕ) (from to : List ℕ) : Type 0 where
  pub nodes_fit : nodes ≤ 512
  pub edges_fit : edges ≤ 1024
  pub from_rows : edges ≤ length from
  pub to_rows : edges ≤ length to
  pub from_in : (e : ℕ) → e < edges → at from e < nodes
  pub to_in : (e : ℕ) → e < edges → at to e < nodes

-- Labels: lags with a bias, so that all are natural numbers. The label of a node is B + r(v), with B so large that no label falls below 0.
-- The search for the least retiming runs on labels; labels/Bias says what that means for lags.
--   Empty, Chain        an edge without a register under the labels; a walk of such edges
--   Fits, LegalLabels   no edge has fewer than 0 registers; the labels of a legal retiming
--   MeetsLabels, Late   every chain fits the period; a node at the end of one that does not
--   Below               one labelling is below another
--   LeastLabels         the least among the legal ones that meet the period
use Rattle.std.specs.Prelude.{ℕ, ◌+◌, ◌≤◌, ◌<◌, ◌≡◌}
use Rattle.theory.specs.Graph.{Graph, Pin}
use Rattle.theory.specs.Walk.{Walk, one, more, delays}

-- An edge holds no register once the labels have moved them: count + label of its end − label of its start is 0.
abbrev pub Empty : Graph → (ℕ → ℕ) → (ℕ → ℕ) → ℕ → Type 0
Empty G count lab e = lab (G.src e) ≡ count e + lab (G.dst e)

-- A chain is a walk whose edges are all empty.
unfoldable pub Chain : {G : Graph} {u v : ℕ} → (ℕ → ℕ) → (ℕ → ℕ) → Walk G u v → Type 0
Chain count lab (one h) = Unit {0}
Chain {G} count lab (more e h p) = Empty G count lab e × Chain count lab p

-- No edge is left with fewer than 0 registers.
abbrev pub Fits : Graph → (ℕ → ℕ) → (ℕ → ℕ) → Type 0
Fits G count lab = (e : ℕ) → e < G.edges → lab (G.src e) ≤ count e + lab (G.dst e)

-- The labels are those of a legal retiming.
pub record LegalLabels (G : Graph) (count : ℕ → ℕ) (B : ℕ) (lab : ℕ → ℕ) : Type 0 where
  pub fits : Fits G count lab
  pub pinned : (v : ℕ) → v < G.nodes → Pin G v → lab v ≡ B

-- Every chain's delays add up to the period at most.
pub record MeetsLabels (G : Graph) (count delay : ℕ → ℕ) (P : ℕ) (lab : ℕ → ℕ) : Type 0 where
  pub in_time : (u v : ℕ) (p : Walk G u v) → Chain count lab p → delays delay p ≤ P

-- A node at which some chain ends that is longer than the period.
pub record Late (G : Graph) (count delay : ℕ → ℕ) (P : ℕ) (lab : ℕ → ℕ) (v : ℕ) : Type 0 where
  pub from : ℕ
  pub walk : Walk G from v
  pub chain : Chain count lab walk
  pub long : P < delays delay walk

-- One labelling is below another at every node.
abbrev pub Below : Graph → (ℕ → ℕ) → (ℕ → ℕ) → Type 0
Below G a b = (v : ℕ) → v < G.nodes → a v ≤ b v

-- The least labelling among the legal ones that meet the period.
pub record LeastLabels (G : Graph) (count delay : ℕ → ℕ) (B P : ℕ) (lab : ℕ → ℕ) : Type 0 where
  pub legal : LegalLabels G count B lab
  pub meets : MeetsLabels G count delay P lab
  pub least : (r : ℕ → ℕ) → LegalLabels G count B r → MeetsLabels G count delay P r → Below G lab r

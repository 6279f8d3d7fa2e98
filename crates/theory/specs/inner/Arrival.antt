-- Arrival times under labels, and distances from a pin.
--   Reached             a chain that ends in v is so long
--   Arrival             the arrival times: no chain is longer than its end's time says, and each time is reached
--   Own, Passed         times that are high enough for each node alone, and for each empty edge
--   FromPin             a walk from a pin with so many registers at most
--   Infeasible          no legal labelling meets the period
--   Under, UnderAll     a label and a time of a node, not above those under the labels r; nor under any legal labelling that meets the period
use Rattle.std.specs.Prelude.{◌≡◌, ◌⊎◌, ℕ, suc, ◌+◌, min, ◌≤◌, ◌<◌}
use Rattle.theory.specs.Graph.{Graph, Pin}
use Rattle.theory.specs.Walk.{Walk, registers, delays}
use Rattle.theory.specs.inner.Labels.{Empty, Chain, LegalLabels, MeetsLabels}

-- A chain that ends in v and has a delay of n at least, where all delays above the period count as the period and one.
pub record Reached (G : Graph) (count delay : ℕ → ℕ) (P : ℕ) (lab : ℕ → ℕ) (v n : ℕ) : Type 0 where
  pub from : ℕ
  pub walk : Walk G from v
  pub chain : Chain count lab walk
  pub enough : n ≤ min (suc P) (delays delay walk)

-- Arrival times: no chain is longer than its end's time says, and each time is reached.
pub record Arrival (G : Graph) (count delay : ℕ → ℕ) (P : ℕ) (lab a : ℕ → ℕ) : Type 0 where
  pub within : (u v : ℕ) (p : Walk G u v) → Chain count lab p → min (suc P) (delays delay p) ≤ a v
  pub reached : (v : ℕ) → v < G.nodes → Reached G count delay P lab v (a v)

-- High enough for each node alone.
abbrev pub Own : Graph → (ℕ → ℕ) → ℕ → (ℕ → ℕ) → Type 0
Own G delay P a = (v : ℕ) → v < G.nodes → min (suc P) (delay v) ≤ a v

-- The times b are high enough for each empty edge, by the times a of the edges' starts.
abbrev pub Passed : Graph → (ℕ → ℕ) → (ℕ → ℕ) → ℕ → (ℕ → ℕ) → (ℕ → ℕ) → (ℕ → ℕ) → Type 0
Passed G count delay P lab a b = (e : ℕ) → e < G.edges → Empty G count lab e → min (suc P) (a (G.src e) + delay (G.dst e)) ≤ b (G.dst e)

-- A walk from a pin to v with n registers at most.
pub record FromPin (G : Graph) (count : ℕ → ℕ) (v n : ℕ) : Type 0 where
  pub from : ℕ
  pub pin : Pin G from
  pub walk : Walk G from v
  pub few : registers count walk ≤ n

-- No legal labelling meets the period.
abbrev pub Infeasible : Graph → (ℕ → ℕ) → (ℕ → ℕ) → ℕ → ℕ → Type 0
Infeasible G count delay B P = (r : ℕ → ℕ) → LegalLabels G count B r → MeetsLabels G count delay P r → ⊥

-- The label is lower, or it is r's and a chain under r that ends in v takes as long.
abbrev pub Under : Graph → (ℕ → ℕ) → (ℕ → ℕ) → ℕ → (ℕ → ℕ) → ℕ → ℕ → ℕ → Type 0
Under G count delay P r v l t = (l < r v) ⊎ ((l ≡ r v) × Reached G count delay P r v t)

abbrev pub UnderAll : Graph → (ℕ → ℕ) → (ℕ → ℕ) → ℕ → ℕ → ℕ → ℕ → ℕ → Type 0
UnderAll G count delay B P v l t = (r : ℕ → ℕ) → LegalLabels G count B r → MeetsLabels G count delay P r → Under G count delay P r v l t

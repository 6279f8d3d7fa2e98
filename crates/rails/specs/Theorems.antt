-- What is to be proved of counting shared registers, beside the call. Each is a type; proofs/theorems has a term of it.
--   SomeRails, OneRails    no answer is free
--   AtMostPlain            the total is at most the plain register total
--   PlainWhereAlone        and equals it where no two edges leave one node
--   run, IsRun             a run of start values; one that is read from a node outward
--   Member, Different      a member of a list; a list without repeats
--   RunsCounted            a node's count is the number of different runs
--   RetimedCounts          a retimed text can be counted
use Rattle.std.specs.Prelude.{◌≡◌, ◌⊎◌, List, [], ◌∷◌, ℕ, ℤ, suc, ◌<◌, ◌≤◌, length, take}
use Rattle.theory.specs.Graph.{Graph}
use Rattle.theory.specs.Clock.{Regs}
use Rattle.theory.specs.Move.{sum}
use Rattle.netlist.specs.declared.Netlist.{Netlist}
use Rattle.netlist.specs.Answer.{Said, value}
use Rattle.netlist.specs.Net.{plain, graph_of, regs_of}
use Rattle.netlist.specs.Read.{Reads}
use Rattle.netlist.specs.Write.{joined, text_of}
use Rattle.retime.specs.Retime.{Retimes}
use Rattle.retime.specs.Demand.{ComesBack}
use Rattle.rails.specs.Rails.{outward, rails_at, Rails}

-- Every text has one outcome with each table, and one only.
abbrev pub SomeRails : Type 0
SomeRails = (t old : List ℕ) → (s : Said) × (new : List ℕ) × Rails t old s new

abbrev pub OneRails : Type 0
OneRails = (t old : List ℕ) (s s' : Said) (new new' : List ℕ) → Rails t old s new → Rails t old s' new' → (s ≡ s') × (new ≡ new')

-- "The total is at most the plain register total".
abbrev pub AtMostPlain : Type 0
AtMostPlain = (t old new : List ℕ) (net : Netlist) (total : ℕ) → Reads t (value 0) net → Rails t old (value total) new
    → total ≤ sum (regs_of net).count net.edges

-- "and equals it when each node has at most one out-edge".
abbrev pub PlainWhereAlone : Type 0
PlainWhereAlone = (t old new : List ℕ) (net : Netlist) (total : ℕ) → Reads t (value 0) net → Rails t old (value total) new
    → ((e i : ℕ) → e < net.edges → i < net.edges → (graph_of net).src e ≡ (graph_of net).src i → e ≡ i)
    → total ≡ sum (regs_of net).count net.edges

-- ── Runs ────────────────────────────────────────────────────────────────────────────────────

-- The start values on edge e at the distances 0, 1, …, d, "read from the feeding node outward".
abbrev pub run : Regs → ℕ → ℕ → List ℕ
run R e d = joined (λ i. outward R e i ∷ []) (suc d)

-- x is the run that ends in some register on an edge that leaves u.
pub record IsRun (G : Graph) (R : Regs) (u : ℕ) (x : List ℕ) : Type 0 where
  pub edge : ℕ
  pub distance : ℕ
  pub there : edge < G.edges
  pub leaves : G.src edge ≡ u
  pub below : distance < R.count edge
  pub is : x ≡ run R edge distance

abbrev pub Member : List ℕ → List (List ℕ) → Type 0
Member x [] = ⊥
Member x (y ∷ l) = (x ≡ y) ⊎ Member x l

abbrev pub Different : List (List ℕ) → Type 0
Different [] = Unit {0}
Different (y ∷ l) = (¬ Member y l) × Different l

-- "It pays once for each different run": the members of `list` are exactly the runs of u, none is there twice, and so many there are.
pub record RunsOf (G : Graph) (R : Regs) (u number : ℕ) : Type 0 where
  pub list : List (List ℕ)
  pub different : Different list
  pub each : (x : List ℕ) → Member x list → IsRun G R u x
  pub every : (x : List ℕ) → IsRun G R u x → Member x list
  pub many : number ≡ length list

abbrev pub RunsCounted : Type 0
RunsCounted = (G : Graph) (R : Regs) (u : ℕ) → RunsOf G R u (rails_at G R u)

-- ── Retimed texts ───────────────────────────────────────────────────────────────────────────

-- "A retimed text can be counted like any other": with a table that is long enough for the original's nodes a total is given.
abbrev pub RetimedCounts : Type 0
RetimedCounts = (t out : List ℕ) (lags : List ℤ) (s : Said) (out' : List ℕ) (lags' : List ℤ) (net : Netlist) (old : List ℕ) (x : Said) (new : List ℕ)
    → Reads t (value 0) net → Retimes t out lags s out' lags' → ComesBack s → net.nodes ≤ length old
    → Rails (take (length (text_of (plain net))) out') old x new → (total : ℕ) × (x ≡ value total)

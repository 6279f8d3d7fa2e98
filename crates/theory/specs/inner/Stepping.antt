-- Stepping over all clocks: the words of the machine, clock by clock, and that they show what the trace shows.
--   edge_shows          what an edge shows in a clock, by the machine's words
--   Stepping            a run of the machine
--   next, words         the words after a clock; before clock t
--   step_value          a node's value in the t-th step
use Rattle.std.specs.Prelude.{◌≡◌, Bool, true, false, List, ℕ, zero, suc, ◌<◌, eqb, ltb}
use Rattle.theory.specs.Graph.{Graph}
use Rattle.theory.specs.Clock.{Regs, gather}
use Rattle.theory.specs.Step.{one_clock}

unfoldable pub shows_if : Bool → Graph → (ℕ → ℕ → ℕ) → (ℕ → ℕ) → ℕ → ℕ
shows_if true G word x e = x (G.src e)
shows_if false G word x e = word e 0

-- "The entered node sees bit 0, or the value of u in this same clock when w is 0."
unfoldable pub edge_shows : Graph → Regs → (ℕ → ℕ → ℕ) → (ℕ → ℕ) → ℕ → ℕ
unfolding shows_if
edge_shows G R word x e = shows_if (eqb (R.count e) 0) G word x e

-- A run: at clock t the machine's words are `word t` (edge, bit), and node v has the value x v t. "Running is stepping from the start values."
-- "Then, where w is above 0, the word moves down a bit and u's value becomes bit w − 1." "Each clock takes the words that the last one left."
pub record Stepping (gate : ℕ → List ℕ → ℕ) (G : Graph) (R : Regs) (ins x : ℕ → ℕ → ℕ) (word : ℕ → ℕ → ℕ → ℕ) : Type 0 where
  pub begins : (e k : ℕ) → e < G.edges → k < R.count e → word 0 e k ≡ R.start e k
  pub shifts : (t e k : ℕ) → e < G.edges → suc k < R.count e → word (suc t) e k ≡ word t e (suc k)
  pub enters : (t e k : ℕ) → e < G.edges → suc k ≡ R.count e → word (suc t) e k ≡ x (G.src e) t
  pub at_input : (v t : ℕ) → v < G.nodes → G.kind v ≡ 0 → x v t ≡ ins v t
  pub at_gate : (v t : ℕ) → v < G.nodes → ¬ (G.kind v ≡ 0)
      → x v t ≡ gate (G.kind v) (gather G.dst (edge_shows G R (word t) (λ u. x u t)) v G.edges)

unfoldable pub next_if : Bool → Graph → (ℕ → ℕ → ℕ) → (ℕ → ℕ) → ℕ → ℕ → ℕ
next_if true G word x e k = word e (suc k)
next_if false G word x e k = x (G.src e)

-- The words after a clock with the values x.
unfoldable pub next : Graph → Regs → (ℕ → ℕ → ℕ) → (ℕ → ℕ) → ℕ → ℕ → ℕ
unfolding next_if
next G R word x e k = next_if (ltb (suc k) (R.count e)) G word x e k

-- The words before clock t.
unfoldable pub words : (ℕ → List ℕ → ℕ) → Graph → Regs → (ℕ → ℕ → ℕ) → ℕ → ℕ → ℕ → ℕ
words gate G R ins zero = R.start
words gate G R ins (suc t) = next G R (words gate G R ins t) (one_clock gate G R (words gate G R ins t) (λ u. ins u t))

-- The value of node v in the t-th step.
abbrev pub step_value : (ℕ → List ℕ → ℕ) → Graph → Regs → (ℕ → ℕ → ℕ) → ℕ → ℕ → ℕ
step_value gate G R ins v t = one_clock gate G R (words gate G R ins t) (λ u. ins u t) v

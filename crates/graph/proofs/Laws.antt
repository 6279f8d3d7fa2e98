-- For users: rule 7 in the theory's words, a node that an input reaches and a node that reaches an output; and loops, whatever the gate kinds are.
--   from_input, input_from     kind 0 is an input
--   to_output, output_from     kind 1 is an output, and the edges are turned round
--   turned                     a walk of the reversed graph is one of the graph, the other way
--   loop_kinds                 gate kinds make no loop
use Prim.Native.Nat.{ℕ, suc, ◌+◌}
use native.Mathlib.Omega.{arith}
use mathlib.Core.Path.{◌≡◌, refl, ap, ◌∙◌}
use mathlib.Core.List.{List}
use Rattle.theory.specs.Graph.{Graph, Wired}
use Rattle.theory.specs.Walk.{Walk, one, more, registers, walk_steps, Loop, FromInput, ToOutput}
use Rattle.theory.proofs.walks.Walks.{join}
use Rattle.graph.specs.Columns.{column_graph}
use Rattle.graph.specs.inner.Laid.{reverse, From}

pub from_input : {G : Graph} {v : ℕ} → From G 0 v → FromInput G v
from_input f = record { from = f.start; input = f.kind; walk = f.walk }

pub input_from : {G : Graph} {v : ℕ} → FromInput G v → From G 0 v
input_from f = record { start = f.from; kind = f.input; walk = f.walk }

-- Edge by edge: the last edge of the one comes first in the other.
pub turned : {G : Graph} → Wired G → {u v : ℕ} → Walk (reverse G) u v → Walk G v u
turned i (one h) = one h
turned i (more e h p) = join (more e h (one (i.src_in e h))) (turned i p)

pub to_output : {G : Graph} {v : ℕ} → Wired G → From (reverse G) 1 v → ToOutput G v
to_output i f = record { to = f.start; output = f.kind; walk = turned i f.walk }

pub output_from : {G : Graph} {v : ℕ} → Wired G → ToOutput G v → From (reverse G) 1 v
output_from {G} i f = record { start = f.to; kind = f.output; walk = turned {G = reverse G} (record { src_in = i.dst_in; dst_in = i.src_in }) f.walk }

-- ── Loops ───────────────────────────────────────────────────────────────────────────────────

module _ (n m : ℕ) (k k' from to : List ℕ) (count : ℕ → ℕ) where
  walk_kinds : {u v : ℕ} → (p : Walk (column_graph n m k from to) u v)
      → (q : Walk (column_graph n m k' from to) u v) × (walk_steps q ≡ walk_steps p) × (registers count q ≡ registers count p)
  unfolding walk_steps registers
  walk_kinds (one h) = (one h, refl, refl)
  walk_kinds (more e h p) = let w = walk_kinds p in (more e h w.0, ap suc w.1, ap (λ r. r + count e) w.2)

  pub loop_kinds : Loop (column_graph n m k from to) count → Loop (column_graph n m k' from to) count
  loop_kinds l =
      let w = walk_kinds l.walk in
      record { node = l.node; walk = w.0; moves = omega (arith, l.moves, w.1); bare = w.2 ∙ l.bare }

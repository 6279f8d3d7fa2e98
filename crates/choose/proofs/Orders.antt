-- The evaluation order of the moved netlist.
--   moved_no_loop       the moved netlist has no loop without a register
--   ordered_counts      an order depends on which counts are 0
--   ordered_cut         and on its first places, one for each node
use Prim.Native.Nat.{ℕ, ◌≤◌, ◌<◌}
use native.Mathlib.Omega.{arith}
use mathlib.Core.Path.{◌≡◌, ◌∙◌}
use mathlib.Core.List.{List}
use lib.ListN.{take}
use lib.Seq.{get_or-take}
use Rattle.theory.specs.Walk.{Loop}
use Rattle.theory.specs.Lag.{new_count}
use Rattle.theory.proofs.walks.Walks.{loop_shift}
use Rattle.theory.proofs.labels.Bias.{legal_shifts}
use Rattle.graph.specs.Columns.{at, column_graph}
use Rattle.graph.specs.inner.Sort.{Stands, Ordered}
use Rattle.graph.proofs.Laws.{loop_kinds}
use Rattle.netlist.specs.declared.Netlist.{Netlist}
use Rattle.netlist.specs.Net.{graph_of, regs_of}
use Rattle.netlist.specs.Circuit.{LoopIn}
use Rattle.moves.specs.inner.Labels.{lags_of, Labelled, Counts}
use Rattle.moves.proofs.Lags.{loop_alike}

pub moved_no_loop : (net : Netlist) (lab counts : List ℕ) → Labelled net lab → Counts net lab counts → ¬ LoopIn net
    → (bytes : List ℕ) → ((e : ℕ) → e < net.edges → at bytes e ≡ at counts e)
    → (kind : List ℕ) → ¬ Loop (column_graph net.nodes net.edges kind net.from net.to) (at bytes)
moved_no_loop net lab counts s c none bytes same kind l =
    let o = loop_kinds net.nodes net.edges kind net.kind net.from net.to (at bytes) l in
    let G = graph_of net in
    let new : ℕ → ℕ = new_count G (regs_of net).count (lags_of lab) in
    none (loop_shift (regs_of net).count new (lags_of lab) (legal_shifts G (regs_of net).count (lags_of lab) s.legal)
    (loop_alike (at bytes) new (λ e h. same e h ∙ c e h) o))

pub ordered_counts : (nodes edges : ℕ) (from to bytes counts order : List ℕ) → ((e : ℕ) → e < edges → at bytes e ≡ at counts e)
    → Ordered nodes edges from to bytes order → Ordered nodes edges from to counts order
ordered_counts nodes edges from to bytes counts order same o = record {
  nodes_only = o.nodes_only;
  every_node = o.every_node;
  sources_first = λ p e hp he q z. o.sources_first p e hp he q (same e he ∙ z);
}

module _ (nodes edges : ℕ) (from to count order : List ℕ) where
  stands_cut : (p v : ℕ) → p ≤ nodes → Stands order p v → Stands (take nodes order) p v
  stands_cut p v h s = record { place = s.place; within = s.within; holds = get_or-take nodes order s.place 0 (omega (arith, s.within)) ∙ s.holds }

  pub ordered_cut : Ordered nodes edges from to count order → Ordered nodes edges from to count (take nodes order)
  ordered_cut o = record {
    nodes_only = λ p h. rw (get_or-take nodes order p 0 h) (o.nodes_only p h);
    every_node = λ v h. stands_cut nodes v (omega arith) (o.every_node v h);
    sources_first = λ p e h l q z. stands_cut p _ (omega arith) (o.sources_first p e h l (q ∙ get_or-take nodes order p 0 h) z);
  }

-- The edges by the node that they enter, and what each node sees.
--   Entering            where the edges of each node stand; a column beside them has what the node sees, in the order of the edges
--   entering            so after sorting
use Prim.Native.Nat.{ℕ, suc, ◌+◌, ◌-◌, ◌≤◌, ◌<◌}
use native.Mathlib.Omega.{arith}
use native.Mathlib.Numerals.{add-one}
use mathlib.Core.Path.{◌≡◌, sym, ap, ◌∙◌}
use mathlib.Core.List.{List}
use lib.ListN.{length, take, drop}
use Rattle.theory.specs.Clock.{gather}
use Rattle.graph.specs.Columns.{at, fan_in}
use Rattle.graph.specs.inner.Sort.{Sorts, ByNode}
use Rattle.graph.proofs.ByNode.{sorts_by_node, sorts_width, sorts_seen}
use Rattle.gates.specs.inner.Gates.{part}
use Rattle.netlist.specs.declared.Netlist.{Netlist}
use Rattle.netlist.specs.Net.{graph_of}
use Rattle.netlist.specs.Read.{FanInsFit}
use Rattle.netlist.specs.Theorems.{Fit}
use Rattle.netlist.proofs.Run.{fit_wired}
use Rattle.netlist.proofs.Lowest.{fan_low, fan_three}

pub record Entering (net : Netlist) (ins first : List ℕ) : Type 0 where
  pub rising : (v : ℕ) → v < net.nodes → at first v ≤ at first (suc v)
  pub within : (v : ℕ) → v < net.nodes → at first (suc v) ≤ net.edges
  pub few : (v : ℕ) → v < net.nodes → at first (suc v) ≤ at first v + 8
  pub three : (v : ℕ) → v < net.nodes → at net.kind v ≡ 10 → at first (suc v) ≡ at first v + 3
  pub edge : (k : ℕ) → k < net.edges → at ins k < net.edges
  pub its : (f : ℕ → ℕ) (sees : List ℕ) → net.edges ≤ length sees → ((k : ℕ) → k < net.edges → at sees k ≡ f (at ins k))
      → (v : ℕ) → v < net.nodes → part sees (at first v) (at first (suc v)) ≡ gather (at net.to) f v net.edges

module _ (net : Netlist) (fit : Fit net) (fans : FanInsFit net) {old ins first : List ℕ} (room : net.edges ≤ length old)
    (s : Sorts net.to net.edges net.nodes old ins first) where
  by_node : ByNode net.to net.nodes net.edges ins first
  by_node = sorts_by_node net.to net.nodes net.edges (fit_wired net fit).dst_in room s

  rising : (v : ℕ) → v < net.nodes → at first v ≤ at first (suc v)
  rising v h = omega (arith, by_node.up v h, ap (at first) (add-one v))

  within : (v : ℕ) → v < net.nodes → at first (suc v) ≤ net.edges
  within v h = omega (arith, by_node.within v h, ap (at first) (add-one v))

  count : (v : ℕ) → v < net.nodes → at first (suc v) - at first v ≡ fan_in (graph_of net) v
  count v h = ap (λ w. at first w - at first v) (sym (add-one v)) ∙ sorts_width net.to net.nodes net.edges (fit_wired net fit).dst_in room s v h

  pub entering : Entering net ins first
  entering = record {
    rising = rising;
    within = within;
    few = λ v h. omega (arith, count v h, fan_low net fans v h, rising v h);
    three = λ v h e. omega (arith, count v h, fan_three net fans v h e, rising v h);
    edge = by_node.edge;
    its = λ f sees rows shows v h.
        let n = count v h in
        let low = rising v h in
        let high = within v h in
        ap (λ m. take m (drop (at first v) sees)) n
        ∙ sorts_seen net.to net.nodes net.edges (fit_wired net fit).dst_in room s f sees (at first v) v h (omega arith) (λ k l. shows (at first v + k) (omega arith));
  }

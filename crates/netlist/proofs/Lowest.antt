-- The rules of the whole, as code asks them: what a test says of one node, and what a search has found.
--   kind_low, count_low a gate kind is at most 10; no edge has more than 32 registers
--   laid                a record whose lines are right, in columns
--   fan_test            the test of rule 5 says whether a node keeps it
--   fan_low, fan_three  by rule 5 no node is entered by more than 8 edges, and a selector is by three
--   reach_test, turned  the test of rule 7 says whether a node keeps it
--   told_yes, told_no   what an answer says
use Prim.Native.Nat.{ℕ, ◌≤◌, ◌<◌}
use mathlib.Core.Path.{◌≡◌, sym, subst}
use mathlib.Core.Bool.{Bool, true, false, cond, ◌&&◌}
use mathlib.Core.List.{List}
use native.Mathlib.Omega.{arith}
use borrow.Author.Tests.{le-leb}
use lib.Dec.{ltb}
use lib.ListN.{length}
use Rattle.frame.specs.Frame.{within}
use Rattle.theory.specs.Graph.{Graph, Wired}
use Rattle.graph.specs.Columns.{at, column_graph, fan_in}
use Rattle.graph.specs.Layers.{Told}
use Rattle.graph.specs.inner.Laid.{reverse, From, Laid}
use Rattle.graph.proofs.Laws.{from_input, input_from, to_output, output_from}
use Rattle.netlist.specs.declared.Netlist.{Netlist}
use Rattle.netlist.specs.Net.{graph_of}
use Rattle.rules.specs.Rules.{rule_of}
use Rattle.netlist.specs.Read.{FanInFits, InReach, FanInsFit}
use Rattle.netlist.specs.Theorems.{Fit}
use Rattle.netlist.proofs.Fits.{clash, within_true, node_fits_means, edge_fits_means}
use Rattle.netlist.proofs.Run.{fit_rows, fit_wired}

pub kind_low : (net : Netlist) → Fit net → (v : ℕ) → v < net.nodes → at net.kind v < 11
kind_low net f v h = omega (arith, (node_fits_means (at net.kind v) (at net.delay v) (f.node v h)).0)

pub count_low : (net : Netlist) → Fit net → (e : ℕ) → e < net.edges → at net.count e ≤ 32
count_low net f e h = (edge_fits_means net.nodes (graph_of net).kind (at net.from e) (at net.to e) (at net.count e) (at net.start e) (f.edge e h)).2

pub laid : (net : Netlist) → Fit net → 1024 ≤ length net.from → 1024 ≤ length net.to → Laid net.nodes net.edges net.from net.to
laid net f hf ht =
    let h = fit_rows net f in
    let w = fit_wired net f in
    record {
      nodes_fit = h.0;
      edges_fit = h.1;
      from_rows = omega (arith, h.1);
      to_rows = omega (arith, h.1);
      from_in = w.src_in;
      to_in = w.dst_in;
    }

module _ {P : Type 0} (b : Bool) where
  pub told_yes : Told b P → b ≡ true → P
  told_yes t e = subst (λ x. Told x P) e t

  pub told_no : Told b P → b ≡ false → ¬ P
  told_no t e = subst (λ x. Told x P) e t

-- ── Rule 5 ──────────────────────────────────────────────────────────────────────────────────

pub fan_test : (G : Graph) (v x : ℕ) (b : Bool) → x ≡ fan_in G v → b ≡ within (rule_of (G.kind v)).fewest (rule_of (G.kind v)).most x → Told b (FanInFits G v)
fan_test G v x true e t = rw e at (within_true (rule_of (G.kind v)).fewest (rule_of (G.kind v)).most x (sym t))
fan_test G v x false e t = λ k.
    let low = le-leb (rule_of (G.kind v)).fewest x (rw e k.0) in
    let high = le-leb x (rule_of (G.kind v)).most (rw e k.1) in
    clash (cc)

pub fan_low : (net : Netlist) → FanInsFit net → (v : ℕ) → v < net.nodes → fan_in (graph_of net) v ≤ 8
unfolding rule_of
fan_low net fan v h = go (ltb (at net.kind v) 1) (ltb (at net.kind v) 4) (ltb (at net.kind v) 10) (fan v h).1
  where
    go : (a b c : Bool) → fan_in (graph_of net) v ≤ cond a 0 (cond b 1 (cond c 8 3)) → fan_in (graph_of net) v ≤ 8
    go true b c l = omega arith
    go false true c l = omega arith
    go false false true l = l
    go false false false l = omega arith

pub fan_three : (net : Netlist) → FanInsFit net → (v : ℕ) → v < net.nodes → at net.kind v ≡ 10 → fan_in (graph_of net) v ≡ 3
unfolding rule_of
fan_three net fan v h e =
    let three = subst (λ k. ((rule_of k).fewest ≤ fan_in (graph_of net) v) × (fan_in (graph_of net) v ≤ (rule_of k).most)) e (fan v h) in
    omega (arith, three)

-- ── Rule 7 ──────────────────────────────────────────────────────────────────────────────────

module _ {G : Graph} (w : Wired G) (v : ℕ) where
  pub reach_test : (fed used : Bool) → Told fed (From G 0 v) → Told used (From (reverse G) 1 v) → Told (fed && used) (InReach G v)
  reach_test true true f u = (from_input f, to_output w u)
  reach_test true false f u = λ j. u (output_from w j.1)
  reach_test false used f u = λ j. f (input_from j.0)

-- What is said of the wires turned round, is said of the graph turned round.
pub turned : (kind from to from' to' : List ℕ) (n m n' m' : ℕ) (b : ℕ → Bool) → n' ≡ n → m' ≡ m → from' ≡ to → to' ≡ from
    → ((v : ℕ) → v < n' → Told (b v) (From (column_graph n' m' kind from' to') 1 v)) → (v : ℕ) → v < n → Told (b v) (From (reverse (column_graph n m kind from to)) 1 v)
turned kind from to from' to' n m n' m' b p q r s h v l = let k = h v (omega arith) in rw (p, q, r, s) at k

-- The columns that the climb and the rounds go by, from the sorted edges and the evaluation order.
--   sorted_wires        the edges sorted by the node that they enter
--   ordered_nodes       the order has all nodes
--   cut_at, cut_stands, cut_listed, cut_in, cut_node, cut_all      a list of nodes, cut to as many as the netlist has
--   entering            the part of the sorted edges that enters a node
--   reads               what a loop over the edges reads is in its ranges: the rows, the ends, the counts
use Rattle.std.specs.Prelude.{slice_range}
use Prim.Native.Nat.{ℕ, ◌+◌, ◌-◌, ◌≤◌, ◌<◌}
use native.Mathlib.Omega.{arith}
use mathlib.Core.Path.{◌≡◌, sym, subst, ap, ◌∙◌}
use mathlib.Core.List.{List}
use lib.ListN.{length, take}
use Rattle.std.proofs.lemmas.List.{get_or-take, length-take}
use Rattle.graph.specs.Columns.{at}
use Rattle.graph.specs.inner.Sort.{Stands, Sorts, EdgesBy, Ordered}
use Rattle.graph.proofs.Parts.{range_at, range_length}
use Rattle.graph.proofs.ByNode.{sorts_by_node}
use Rattle.netlist.specs.declared.Netlist.{Netlist}
use Rattle.netlist.proofs.Run.{fit_rows, fit_wired}
use Rattle.netlist.proofs.Lowest.{count_low}
use Rattle.lags.specs.inner.Lags.{Sure}
use Rattle.lags.specs.declared.Ground.{Ground}
use Rattle.lags.specs.inner.Wires.{NodeList, Grounded, Entering}

pub sorted_wires : (net : Netlist) → Sure net → {old ins first : List ℕ} → net.edges ≤ length old → Sorts net.to net.edges net.nodes old ins first
    → net.edges ≤ length ins → net.nodes < length first → EdgesBy net.to net.nodes net.edges ins first
sorted_wires net sure room s a b =
    record { by_node = sorts_by_node net.to net.nodes net.edges (fit_wired net sure.fit).dst_in room s; list_rows = a; begin_rows = b }

pub ordered_nodes : (net : Netlist) (count order : List ℕ) → Ordered net.nodes net.edges net.from net.to count order → NodeList net order
ordered_nodes net count order o = record { node = o.nodes_only; every = o.every_node }

module _ (net : Netlist) (order : List ℕ) where
  pub cut_at : (p : ℕ) → p < net.nodes → at (take net.nodes order) p ≡ at order p
  cut_at p h = get_or-take net.nodes order p 0 h

  pub cut_stands : (m v : ℕ) → m ≤ net.nodes → Stands order m v → Stands (take net.nodes order) m v
  cut_stands m v h t = record { place = t.place; within = t.within; holds = cut_at t.place (omega (arith, t.within)) ∙ t.holds }

  pub cut_listed : NodeList net order → NodeList net (take net.nodes order)
  cut_listed o = record {
    node = λ p h. subst (λ v. v < net.nodes) (sym (cut_at p h)) (o.node p h);
    every = λ v h. cut_stands net.nodes v (omega arith) (o.every v h);
  }

  -- What a loop over them looks at is a node; where it ends it has looked at all.
  pub cut_in : (p : ℕ) → p < length (take net.nodes order) → p < net.nodes
  cut_in p h = omega (arith, h, length-take net.nodes order)

  pub cut_node : NodeList net order → (p : ℕ) → p < length (take net.nodes order) → at (take net.nodes order) p < net.nodes
  cut_node o p h = (cut_listed o).node p (cut_in p h)

  pub cut_all : net.nodes ≤ length order → (p : ℕ) → length (take net.nodes order) ≤ p → net.nodes ≤ p
  cut_all l p h = omega (arith, h, length-take net.nodes order)

module _ {net : Netlist} {g : Ground} (w : Grounded net g) (v : ℕ) (h : v < net.nodes) where
  abbrev lo : ℕ
  lo = at g.ins.begin v

  abbrev hi : ℕ
  hi = at g.ins.begin (v + 1)

  size : length (slice_range g.ins.list lo hi) ≡ hi - lo
  size = range_length g.ins.list lo hi (omega (arith, w.wires.by_node.within v h, w.wires.list_rows))

  pub entering : Entering net v (slice_range g.ins.list lo hi)
  entering = record {
    edge = λ k l. rw (range_at g.ins.list lo hi k (omega (arith, size))) (w.wires.by_node.edge (lo + k) (omega (arith, size, w.wires.by_node.within v h)));
    ends = λ k l. rw (range_at g.ins.list lo hi k (omega (arith, size))) (w.wires.by_node.ends v (lo + k) h (omega arith) (omega (arith, size)));
    every = λ e l q.
        let k = w.wires.by_node.stands e l in
        let x : lo ≤ k.0 = subst (λ y. at g.ins.begin y ≤ k.0) q k.1 in
        let y : k.0 < hi = subst (λ y. k.0 < at g.ins.begin (y + 1)) q k.2 in
        record {
          place = k.0 - lo;
          within = omega (arith, size);
          holds = range_at g.ins.list lo hi (k.0 - lo) (omega arith) ∙ ap (at g.ins.list) (let z : lo + (k.0 - lo) ≡ k.0 = omega arith in z) ∙ k.3;
        };
  }

pub few_nodes : (net : Netlist) → Sure net → net.nodes ≤ 512
few_nodes net s = (fit_rows net s.fit).0

pub few_edges : (net : Netlist) → Sure net → net.edges ≤ 1024
few_edges net s = (fit_rows net s.fit).1

pub start_in : (net : Netlist) (e : ℕ) → Sure net → e < net.edges → at net.from e < net.nodes
start_in net e s h = (fit_wired net s.fit).src_in e h

pub end_in : (net : Netlist) (e : ℕ) → Sure net → e < net.edges → at net.to e < net.nodes
end_in net e s h = (fit_wired net s.fit).dst_in e h

pub few_registers : (net : Netlist) (e : ℕ) → Sure net → e < net.edges → at net.count e ≤ 32
few_registers net e s h = count_low net s.fit e h

pub ruleset reads = (few_nodes, few_edges, start_in, end_in, few_registers)

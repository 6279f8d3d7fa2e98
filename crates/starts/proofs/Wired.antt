-- The edges of a netlist that keeps the rules, sorted by the node that they enter.
--   low_nodes           no more nodes than a record has rows
--   wired               what each node's gate sees, by place
--   node_edge           the edges listed for a node are edges
--   from_low, to_low    an edge joins two nodes
--   shown_rows          it shows a node behind 32 registers at most
use Prim.Native.Nat.{ℕ, ◌+◌, ◌≤◌, ◌<◌}
use native.Mathlib.Omega.{arith}
use native.Mathlib.Numerals.{add-one}
use mathlib.Core.Path.{ap}
use Rattle.graph.specs.Columns.{at}
use Rattle.netlist.specs.declared.Netlist.{Netlist}
use Rattle.netlist.proofs.Run.{fit_rows, fit_wired}
use Rattle.netlist.proofs.Lowest.{count_low}
use Rattle.simulate.specs.inner.Ran.{Steppable}
use Rattle.simulate.proofs.Seen.{Entering, entering}
use Rattle.starts.specs.declared.wiring.Wiring.{Wiring}
use Rattle.starts.specs.inner.Ring.{EdgeRows}

pub low_nodes : (net : Netlist) → Steppable net → net.nodes ≤ 512
low_nodes net ok = (fit_rows net ok.fit).0

module _ (w : Wiring) where
  pub wired : Entering w.net.now w.ins.list w.ins.begin
  wired = entering w.net.now w.steppable.fit w.steppable.fans w.few_edges w.entering

  pub node_edge : (v k : ℕ) → v < w.net.now.nodes → k < at w.ins.begin (v + 1) → at w.ins.list k < w.net.now.edges
  node_edge v k h l = wired.edge k (omega (arith, wired.within v h, ap (at w.ins.begin) (add-one v)))

  pub from_low : (e : ℕ) → e < w.net.now.edges → at w.net.now.from e < 512
  from_low e h = omega (arith, w.few_nodes, (fit_wired w.net.now w.steppable.fit).src_in e h)

  pub to_low : (e : ℕ) → e < w.net.now.edges → at w.net.now.to e < 512
  to_low e h = omega (arith, w.few_nodes, (fit_wired w.net.now w.steppable.fit).dst_in e h)

  pub shown_rows : (e : ℕ) → e < w.net.now.edges → EdgeRows w.net.now e
  shown_rows e h = record { low = omega (arith, w.few_edges); source = from_low e h; width = count_low w.net.now w.steppable.fit e h }

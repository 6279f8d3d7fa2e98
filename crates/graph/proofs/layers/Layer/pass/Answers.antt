-- `graph::layers::Layer::pass` meets its contract: the marks have spread from the nodes at the places passed (`pass_leaves`).
use Rattle.std.proofs.Common.{◌≡◌, ◌+◌, ◌<◌, ℕ, List, replicate, slice_range, arith}
use Rattle.std.proofs.lemmas.List.Elements.{All-from_get_or}
use Rattle.graph.specs.declared.by_node.EdgesByNode.{EdgesByNode}
use Rattle.graph.specs.declared.wires.Wires.{Wires}
use Rattle.graph.specs.Columns.{at}
use Rattle.graph.specs.inner.Sort.{Sorts, EdgesOf}
use Rattle.graph.proofs.ByNode.{sorts_of}
use Rattle.graph.proofs.Spread.{queued_short, fed_turn}
use Rattle.graph.proofs.Passes.{pass_leaves}
use Rattle.graph.proofs.layers.Layer.pass.Goals as goal

leaving : (w : Wires) (links : EdgesByNode) {u : ℕ} {out : List ℕ} → Sorts w.from.now w.edges w.nodes (replicate 1024 0) links.list links.begin → u < w.nodes
    → out ≡ slice_range links.list (at links.begin u) (at links.begin (u + 1)) → EdgesOf w.from.now w.edges u out
leaving w links {u} s h e = rw e (sorts_of w.from.now w.nodes w.edges w.laid.from_in w.laid.edges_fit s u h)

pub offset_bounds-self-i : goal.offset_bounds-self-i
offset_bounds-self-i c = omega (arith, queued_short c.loop-i.invariant.1.queued, c.loop-i.invariant.1.longer)

pub bounds-self-i : goal.bounds-self-i
bounds-self-i c = omega (arith, queued_short c.loop-i.invariant.1.queued, c.loop-i.invariant.1.longer)

pub mark_ends-requires : goal.mark_ends-requires
mark_ends-requires c =
    let s = c.loop-i.invariant.1 in
    let u = s.queued.listed.nodes_only c.loop-i.i (omega (arith, s.longer)) in
    let o = leaving c.args.wires c.args.links.now c.requires.links u c.of.ensures in
    (s.queued, All-from_get_or (λ e. e < c.args.wires.edges) c.of.result.now 0 o.edge)

pub loop-i-preserved : goal.loop-i-preserved
loop-i-preserved c =
    let s = c.loop-i.invariant.1 in
    let u = s.queued.listed.nodes_only c.loop-i.i (omega (arith, s.longer)) in
    (omega arith, fed_turn c.loop-i.auto.i (s.front c.loop-i.i (omega arith)) (leaving c.args.wires c.args.links.now c.requires.links u c.of.ensures) s c.mark_ends.ensures)

pub returns : goal.returns
returns c =
    let e : c.loop-i.i ≡ c.args.self.now.hi = omega (arith, c.loop-i.invariant.0, queued_short c.requires.steady.0.queued) in
    pass_leaves c.args.self.now c.requires.steady.0 (rw e at c.loop-i.invariant.1) c.requires.steady.1

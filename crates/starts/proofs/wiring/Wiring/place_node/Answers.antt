-- A slot is one of the ring's.
use Rattle.std.proofs.Common.{◌≡◌, ◌+◌, ap, ◌∙◌, arith, ◌<◌, length}
use mathlib.Core.Path.{ap₂}
use Rattle.graph.specs.Columns.{at}
use Rattle.starts.specs.inner.Ring.{slot_of, edge_slot}
use Rattle.starts.proofs.Slots.{slot_in, puts_more}
use Rattle.starts.proofs.Wired.{shown_rows, node_edge}
use Rattle.starts.proofs.wiring.Wiring.place_node.Goals as goal

pub of-requires : goal.of-requires
of-requires c =
    let w = c.args.self.now in
    shown_rows w (at w.ins.list c.loop-k.k) (node_edge w c.args.v c.loop-k.k c.requires (omega arith))

pub overflow_cast-slots : goal.overflow_cast-slots
overflow_cast-slots c =
    let e = c.of.result in
    omega (arith, c.slot.ensures, slot_in e.from e.registers e.start c.args.s e.source)

pub loop-k-preserved : goal.loop-k-preserved
loop-k-preserved c =
    let a = c.args in
    let w = a.self.now in
    let l = c.loop-k in
    let net = w.net.now in
    let e = at w.ins.list l.k in
    let o = c.of.ensures in
    let is : c.slot.result ≡ edge_slot net a.s e =
    c.slot.ensures ∙ ap₂ (λ u w. slot_of u w c.of.result.start a.s) o.from o.registers ∙ ap (λ x. slot_of (at net.from e) (at net.count e) x a.s) o.start in
    let room : l.k < length l.slots = omega (arith, w.ins.within (a.v + 1) (omega arith), w.few_nodes) in
    puts_more w.ins.list net a.s (at w.ins.begin a.v) l.k a.slots.now l.slots c.slot.result is room (omega arith) l.invariant

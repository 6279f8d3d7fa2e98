-- `graph::layers::Layer::first` meets its contract: of the nodes below v those of the kind are marked.
use Rattle.std.proofs.Common.{◌≡◌, refl, arith}
use Rattle.graph.proofs.Answers.{none_marked}
use Rattle.graph.proofs.Once.{listed_none}
use Rattle.graph.proofs.Spread.{mark_room, spread_none, spread_mark, pins_none, pins_turn, pins_skip}
use Rattle.graph.proofs.Passes.{first_after}
use Rattle.graph.proofs.layers.Layer.first.Goals as goal
use Rattle.graph.proofs.layers.Layer.first.Goals.{then-kind-v, else-kind-v}

pub loop-v-init : goal.loop-v-init
loop-v-init c =
    let n = c.args.wires.laid.nodes_fit in
    spread_none (record { nodes_fit = n; queue_rows = refl; mark_rows = refl; listed = listed_none _ _ _ (none_marked 512 n) }) (pins_none c.args.kind.now c.args.pin)

pub mark-requires : goal.mark-requires
mark-requires c =
    let fit = c.args.wires.laid.nodes_fit in
    (omega (arith, fit), λ e. omega (arith, mark_room c.loop-v-test.true c.loop-v.invariant.queued e, fit))

pub loop-v-preserved : goal.loop-v-preserved
loop-v-preserved c =
    let a = c.args in
    let s = c.loop-v.invariant in
    elim c.if-kind-v.branch [
      | then-kind-v w ↦ rw (w.layer-is, w.mark.ensures) (pins_turn a.kind.now a.pin w.if-kind-v.true s (spread_mark c.loop-v-test.true s.queued))
      | else-kind-v w ↦ rw w.layer-is (pins_skip a.kind.now a.pin w.if-kind-v.false s)
    ]

pub returns : goal.returns
returns c =
    let a = c.args in
    let s = c.loop-v.invariant in
    (first_after (none_marked 512 a.wires.laid.nodes_fit) refl refl (let e : c.loop-v.v ≡ a.wires.nodes = omega arith in rw e at s), s.passes)

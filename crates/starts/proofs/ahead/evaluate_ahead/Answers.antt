-- `all_next` is a turn.
use Rattle.std.proofs.Common.{◌≡◌, suc, refl, length, arith, rules}
use Rattle.graph.specs.Columns.{at}
use Rattle.gates.proofs.Words.{part_length}
use Rattle.starts.specs.inner.Ahead.{all_ahead}
use Rattle.starts.proofs.Turned.{all_next}
use Rattle.starts.proofs.ahead.evaluate_ahead.Goals as goal

pub loop-node-init : goal.loop-node-init
unfolding all_ahead
loop-node-init c = (refl, c.requires.bits, λ kind t. refl)

pub loop-node-preserved : goal.loop-node-preserved
loop-node-preserved c =
    let a = c.args in
    let n = a.gates in
    let l = c.loop-node in
    let v = at n.node.now l.node-index in
    let g = c.gate_ahead in
    let w = c.gate.ensures in
    let p = c.requires.placed l.node-index (omega arith) in
    let rows : (length a.ring.now ≡ 32770) × (length g.new.ring ≡ 32770) = (search rules, search rules) in (
      omega arith,
      g.ensures.0,
      λ kind t.
          all_next kind n.node.now n.first.now n.list.now a.base a.ring.now l.ring _ l.node-index (l.invariant.2 kind t)
          (rw w.sees at (g.ensures.1 (at kind v) (rw (w.truth, w.sees, part_length n.list.now (at n.first.now v) (at n.first.now (suc v)) p.in_list) (t l.node-index (omega arith))))),
    )

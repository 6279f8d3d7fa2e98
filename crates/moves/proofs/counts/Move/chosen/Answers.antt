-- `moves::counts::Move::chosen` meets its contract: the sums up to e are filled, and each edge adds at most the lag of the node that it enters, so at most 16,384.
use Rattle.std.proofs.Common.{◌≡◌, ℕ, ◌+◌, ◌≤◌, ◌<◌, min, List, replicate, arith, refl, sym, ap₂, ◌∙◌}
use lib.ListN.{length-set}
use Rattle.theory.specs.Lag.{up}
use Rattle.theory.specs.Move.{sum}
use Rattle.theory.proofs.numbers.Sums.{sum_none, sum_more}
use Rattle.graph.specs.Columns.{at}
use Rattle.graph.proofs.Fills.{fill_more}
use Rattle.netlist.specs.declared.Netlist.{Netlist}
use Rattle.lags.specs.inner.Lags.{lag_of}
use Rattle.lags.proofs.Laws.{lag_up}
use Rattle.moves.specs.inner.Labels.{Labelled, chosen_at}
use Rattle.moves.proofs.Labels.{to_node, low_edge, base_none, chosen_is}
use Rattle.moves.proofs.counts.Move.chosen.Goals as goal

-- No edge adds more than the highest lag.
few : (net : Netlist) (lab : List ℕ) → Labelled net lab → (e : ℕ) → e < net.edges → (count lag x : ℕ)
    → lag ≡ up (lag_of (at lab (at net.to e))) → x ≡ min count lag → x ≤ 16384
few net lab s e h count lag x p q =
    let v = at net.to e in
    omega (arith, p, q, lag_up (at lab v), s.small v (to_node net lab s e h))

pub loop-e-init : goal.loop-e-init
loop-e-init c =
    let f : ℕ → ℕ = chosen_at c.args.self.net.now c.args.self.lab.now in
    (refl, omega arith, sum_none f, base_none f (replicate 1025 0) refl)

pub overflow_add-total : goal.overflow_add-total
overflow_add-total c =
    let a = c.args in
    let m = a.self in
    let e = c.loop-e.e in
    let h = c.loop-e-test.true in
    omega (arith, few m.net.now m.lab.now m.labelled e h (at a.counts.now e) c.up_of.result c.chosen_on-total.result c.up_of.ensures c.chosen_on-total.ensures, low_edge m.net.now m.lab.now m.labelled e h)

pub loop-e-preserved : goal.loop-e-preserved
loop-e-preserved c =
    let a = c.args in
    let m = a.self in
    let l = c.loop-e in
    let h = c.loop-e-test.true in
    let x = c.chosen_on-total.result in
    let f : ℕ → ℕ = chosen_at m.net.now m.lab.now in
    let q : l.total + x ≡ sum f (l.e + 1) =
    ap₂ ◌+◌ l.invariant.2 (chosen_is m.net.now m.lab.now a.counts.now c.requires.0 l.e h x c.up_of.result c.up_of.ensures c.chosen_on-total.ensures) ∙ sym (sum_more f l.e) in (
      length-set l.base (l.e + 1) (l.total + x) ∙ l.invariant.0,
      omega (arith, few m.net.now m.lab.now m.labelled l.e h (at a.counts.now l.e) c.up_of.result x c.up_of.ensures c.chosen_on-total.ensures),
      q,
      fill_more (λ k. sum f k) l.base (l.e + 1) (l.total + x) (omega (arith, low_edge m.net.now m.lab.now m.labelled l.e h, l.invariant.0)) q l.invariant.3,
    )

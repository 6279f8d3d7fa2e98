-- `quote::halving::tightest` meets its contract: 65,535 is not met, or it is halved down from there.
use Rattle.std.proofs.Common.{◌<◌, arith, rules, get_or-take, length-take}
use Rattle.quote.proofs.Halves.{halving_start, halving_missed}
use Rattle.quote.proofs.halving.tightest.Goals as goal

pub loop-low-init : goal.loop-low-init
loop-low-init c =
    let g = c.ground_of-ground in
    let n = c.args.net.nodes in
    let few = c.largest-step.ensures.least 999 (λ v h. let l : v < n = omega (arith, length-take n g.result.delay) in let z = g.ensures.delayed.small v l in omega (arith, get_or-take n g.result.delay v 0 l)) in
    (omega arith, halving_start _ c.in_ok-lab.ensures (search rules))

pub loop-low-preserved : goal.loop-low-preserved
loop-low-preserved c =
    let i = c.loop-low.invariant in
    let t = c.next_try-middle.ensures in
    (i.0, halving_missed _ i.1 t.0 t.1 c.in-None.ensures)

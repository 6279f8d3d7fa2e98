-- Where no clock is asked for, nothing is asked of the ring.
use Rattle.std.proofs.Common.{◌≡◌, ◌<◌, ◌≤◌, ◌+◌, ℕ, List, length, arith, rules, subst, take}
use Rattle.std.proofs.lemmas.List.{length-take-le, get_or-take}
use Rattle.graph.specs.Columns.{at}
use Rattle.starts.proofs.Held.{held_start, held_end}
use Rattle.starts.proofs.ring.ring_of.Goals as goal

-- Of the labels of the nodes, cut out of a longer list.
cut : (lab : List ℕ) (nodes clocks : ℕ) → nodes ≤ length lab → ((v : ℕ) → v < length (take nodes lab) → 16384 ≤ clocks + at (take nodes lab) v) → (v : ℕ) → v < nodes → 16384 ≤ clocks + at lab v
cut lab nodes clocks h w v l = subst (λ x. 16384 ≤ clocks + x) (get_or-take nodes lab v 0 l) (w v (rw (length-take-le nodes lab h) l))

pub returns-then-clocks-eq0 : goal.returns-then-clocks-eq0
returns-then-clocks-eq0 c =
    let m = c.args.from in
    let rows : length c.empty.result ≡ 32770 = search rules in
    held_end m.net.now m.lab.now 0 c.empty.result (λ v h. omega (arith, cut m.lab.now m.net.now.nodes c.clocks_asked-clocks.result m.labelled.rows c.clocks_asked-clocks.ensures.1 v h, c.if-clocks-eq0.true))
    (held_start m.net.now m.lab.now c.empty.result rows c.empty.ensures)

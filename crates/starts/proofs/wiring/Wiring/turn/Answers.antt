-- `starts::wiring::Wiring::turn` meets its contract: past the start values, a row further is the next clock.
use Rattle.std.proofs.Common.{◌≡◌, ◌+◌, ◌-◌, ◌<◌, ◌≤◌, length, take, ap, ◌∙◌, arith}
use Rattle.std.proofs.lemmas.List.{get_or_append_left, length-take-le, get_or-take}
use Rattle.graph.specs.Columns.{at}
use Rattle.starts.specs.inner.Ring.{further}
use Rattle.starts.proofs.Slots.{edge_turn}
use Rattle.starts.proofs.Wired.{wired, shown_rows}
use Rattle.starts.proofs.wiring.Wiring.turn.Goals as goal

pub returns-then-s-gt0 : goal.returns-then-s-gt0
returns-then-s-gt0 c =
    let a = c.args in
    let w = a.self.now in
    let net = w.net.now in
    let t = a.s - 1 in
    let q : t + 1 ≡ a.s = omega arith in
    let late : 32 ≤ t = omega arith in
    let wide : length (take net.edges a.slots.now) ≡ net.edges = length-take-le net.edges a.slots.now (omega (arith, w.few_edges)) in
    λ i l k x y.
    let v : at a.list.now i < net.nodes = c.requires.nodes i 0 l in
    let b : k < net.edges = omega (arith, (wired w).within (at a.list.now i) v) in
    get_or_append_left c.advance.new.slots _ 0 k (omega (arith, c.advance.auto.slots, wide))
    ∙ c.advance.ensures k (omega (arith, wide)) ∙ ap further (get_or-take net.edges a.slots.now k 0 b ∙ c.requires.before t late q c.if-s-gt0.true i l k x y)
    ∙ edge_turn net (at w.ins.list k) t a.s (shown_rows w (at w.ins.list k) ((wired w).edge k b)) late q

-- `netlist::judging::judge` meets its contract: rule 5, then 6, then 7.
use Rattle.std.proofs.Common.{◌≡◌, ℕ, List, ◌<◌, Bool, true, false, ◌&&◌, arith, rules, refl}
use Rattle.frame.specs.Frame.{within}
use Rattle.theory.specs.Walk.{Loop}
use Rattle.rules.specs.Rules.{rule_of}
use Rattle.graph.specs.Columns.{at, flag, column_graph, fan_in}
use Rattle.graph.specs.Layers.{Told}
use Rattle.graph.specs.Wires.{wires_graph}
use Rattle.graph.specs.inner.Laid.{reverse, From}
use Rattle.graph.specs.declared.wires.Wires.{Wires}
use Rattle.netlist.specs.declared.Netlist.{Netlist}
use Rattle.netlist.specs.Order.{here, past}
use Rattle.netlist.specs.Net.{graph_of}
use Rattle.netlist.specs.Circuit.{LoopIn}
use Rattle.netlist.specs.Read.{FanInFits, InReach}
use Rattle.netlist.specs.Theorems.{Fit}
use Rattle.netlist.specs.inner.Wiring.{WiresOf}
use Rattle.netlist.proofs.Run.{fit_wired}
use Rattle.netlist.proofs.Judged.{all_none}
use Rattle.netlist.proofs.Lowest.{fan_test, reach_test, turned, told_yes, told_no}
use Rattle.netlist.proofs.Wiring.{of_wires}
use Rattle.netlist.proofs.judging.judge.Goals as goal

-- What the counts and marks of a record's wires say of it.
module _ {net : Netlist} {w : Wires} (k : WiresOf net w) where
  fan : (ins : List ℕ) → ((kind : List ℕ) (v : ℕ) → v < w.nodes → at ins v ≡ fan_in (wires_graph kind w) v)
      → (b : Bool) (v : ℕ) → v < net.nodes → b ≡ within (rule_of (at net.kind v)).fewest (rule_of (at net.kind v)).most (at ins v) → Told b (FanInFits (graph_of net) v)
  fan ins f b v h t =
      fan_test (graph_of net) v (at ins v) b (of_wires k (λ n m from to. v < n → at ins v ≡ fan_in (column_graph n m net.kind from to) v) (f net.kind v) h) t

  loop : (b : Bool) → Told b (Loop (wires_graph net.kind w) (at net.count)) → Told b (LoopIn net)
  loop b = of_wires k (λ n m from to. Told b (Loop (column_graph n m net.kind from to) (at net.count)))

  reach : Fit net → (fed used : List Bool) (r : Wires) → (r.nodes ≡ w.nodes) × (r.edges ≡ w.edges) → (r.from.now ≡ w.to.now) × (r.to.now ≡ w.from.now)
      → ((v : ℕ) → v < w.nodes → Told (flag fed v) (From (wires_graph net.kind w) 0 v)) → ((v : ℕ) → v < r.nodes → Told (flag used v) (From (wires_graph net.kind r) 1 v))
      → (v : ℕ) → v < net.nodes → Told (flag fed v && flag used v) (InReach (graph_of net) v)
  reach f fed used r n e from_input to_output v h =
      let back = turned net.kind w.from.now w.to.now r.from.now r.to.now w.nodes w.edges r.nodes r.edges (flag used) n.0 n.1 e.0 e.1 to_output in
      reach_test (fit_wired net f) v (flag fed v) (flag used v)
      (of_wires k (λ n m from to. v < n → Told (flag fed v) (From (column_graph n m net.kind from to) 0 v)) (from_input v) h)
      (of_wires k (λ n m from to. v < n → Told (flag used v) (From (reverse (column_graph n m net.kind from to)) 1 v)) (back v) h)

-- Where the search found no node, all keep rule 5; where it found one, it is the lowest that breaks it.
pub returns-in-Some : goal.returns-in-Some
returns-in-Some c =
    let k = c.in-Some.ensures in
    let test = fan c.wires-wires.ensures c.fan_ins-ins.result c.fan_ins-ins.ensures in
    here (
      c.in-Some.v,
      record {
        there = k.0;
        breaks = test false c.in-Some.v k.0 (let p = k.1 in search rules);
        before = λ u l. test true u (omega (arith, k.0)) (let p = k.2 u l in search rules);
      },
      refl,
    )

pub returns-then-looped : goal.returns-then-looped
returns-then-looped c =
    let k = c.wires-wires.ensures in
    past (all_none (λ v h. fan k c.fan_ins-ins.result c.fan_ins-ins.ensures true v h (let p = c.in_default.ensures v h in search rules)))
    (here (told_yes _ (loop k c.looped.result (c.looped.ensures c.args.net.now.kind)) c.if-looped.true, refl))

pub returns-in-Some-lowest : goal.returns-in-Some-lowest
returns-in-Some-lowest c =
    let w = c.wires-wires.ensures in
    let v = c.in-Some-lowest.v in
    let k = c.in-Some-lowest.ensures in
    let both = λ (v : ℕ). flag c.reached-fed.result v && flag c.reached-used.result v in
    let test = reach w c.requires c.reached-fed.result c.reached-used.result c.reversed.result c.reversed.ensures.nodes c.reversed.ensures.ends c.reached-fed.ensures c.reached-used.ensures in
    past (all_none (λ v h. fan w c.fan_ins-ins.result c.fan_ins-ins.ensures true v h (let p = c.in_default.ensures v h in search rules)))
    (past (λ x g. told_no _ (loop w c.looped.result (c.looped.ensures c.args.net.now.kind)) c.if-looped.false g.0)
    (here (
      v,
      record {
        there = k.0;
        breaks = told_no (both v) (test v k.0) (let p = k.1 in search rules);
        before = λ u l. told_yes (both u) (test u (omega (arith, k.0))) (let p = k.2 u l in search rules);
      },
      refl,
    )))

pub returns : goal.returns
returns c =
    let w = c.wires-wires.ensures in
    let both = λ (v : ℕ). flag c.reached-fed.result v && flag c.reached-used.result v in
    let test = reach w c.requires c.reached-fed.result c.reached-used.result c.reversed.result c.reversed.ensures.nodes c.reversed.ensures.ends c.reached-fed.ensures c.reached-used.ensures in
    past (all_none (λ v h. fan w c.fan_ins-ins.result c.fan_ins-ins.ensures true v h (let p = c.in_default.ensures v h in search rules)))
    (past (λ x g. told_no _ (loop w c.looped.result (c.looped.ensures c.args.net.now.kind)) c.if-looped.false g.0)
    (past (all_none (λ v h. told_yes (both v) (test v h) (let p = c.in_default-lowest.ensures v h in search rules))) refl))

use Rattle.std.proofs.Common.{◌≡◌, ℕ, suc, ◌+◌, ◌-◌, ◌<◌, List, arith, sym, ◌∙◌, drop}
use Rattle.netlist.specs.declared.Netlist.{Netlist}
use Rattle.netlist.specs.Read.{Lines, nodes_from}
use Rattle.netlist.proofs.Exits.{left_for}
use Rattle.netlist.proofs.Stages.{opened, closed, node_none, node_wrong, node_good}
use Rattle.netlist.proofs.lines.read_nodes.Goals as goal

-- The next line is the first of those that are left.
left : (n i b : ℕ) (l : List ℕ) (net : Netlist) {whole : Lines} → i < n → nodes_from (n - i) i b l net ≡ whole
    → nodes_from (suc (n - (i + 1))) i b l net ≡ whole
left n i b l net h p = let q : n - i ≡ suc (n - (i + 1)) = omega arith in rw q at p

pub returns-in_err-kind : goal.returns-in_err-kind
returns-in_err-kind c =
    let t = c.args.text.now in
    let l = c.loop-v in
    let none = c.in_err-kind.ensures.ok_part in
    let here = left c.args.headed.net.nodes l.v (2 + l.v) (drop l.at t) l.net c.loop-v-test.true l.invariant.2 in
    rw (left_for c.from_residual.ensures none c.in_err-kind.ensures.value) (sym here ∙ node_none t l.at _ l.v (2 + l.v) l.net (closed 2 2 l.at t (sym none ∙ c.line.ensures)))

pub returns-then-not-node_fits : goal.returns-then-not-node_fits
returns-then-not-node_fits c =
    let t = c.args.text.now in
    let l = c.loop-v in
    let line = opened 2 2 l.at t (sym c.in_ok-kind.ensures.ok_part ∙ c.line.ensures) in
    let wrong = sym c.node_fits.ensures ∙ c.if-not-node_fits.true in
    let here = left c.args.headed.net.nodes l.v (2 + l.v) (drop l.at t) l.net c.loop-v-test.true l.invariant.2 in
    sym here ∙ node_wrong t l.at _ l.v (2 + l.v) l.net _ line wrong

pub overflow_add-at : goal.overflow_add-at
overflow_add-at c =
    let line = opened 2 2 c.loop-v.at c.args.text.now (sym c.in_ok-kind.ensures.ok_part ∙ c.line.ensures) in
    omega (arith, line.room, c.well_formed)

pub loop-v-preserved : goal.loop-v-preserved
loop-v-preserved c =
    let t = c.args.text.now in
    let n = c.args.headed.net.nodes in
    let l = c.loop-v in
    let line = opened 2 2 l.at t (sym c.in_ok-kind.ensures.ok_part ∙ c.line.ensures) in
    let good = sym c.node_fits.ensures ∙ c.if-not-node_fits.false in
    let here = left n l.v (2 + l.v) (drop l.at t) l.net c.loop-v-test.true l.invariant.2 in
    let next : 2 + (l.v + 1) ≡ 2 + l.v + 1 = omega arith in
    (l.invariant.0, l.invariant.1, rw next (sym (node_good t l.at (n - (l.v + 1)) l.v (2 + l.v) l.net _ line good) ∙ here))

pub returns : goal.returns
unfolding nodes_from
returns c =
    let l = c.loop-v in
    let e : c.args.headed.net.nodes - l.v ≡ 0 = omega arith in
    let n : 2 + l.v ≡ 2 + l.net.nodes + 0 = omega (arith, l.invariant.0) in
    sym (rw (e, n) at l.invariant.2)

use Rattle.std.proofs.Common.{◌≡◌, ℕ, suc, ◌+◌, ◌-◌, ◌<◌, List, arith, ap, refl, sym, ◌∙◌, drop, get_or}
use Rattle.netlist.specs.declared.Netlist.{Netlist}
use Rattle.netlist.specs.Net.{graph_of}
use Rattle.rules.specs.Rules.{edge_fits}
use Rattle.netlist.specs.Read.{line_of_edge, Lines, edges_from}
use Rattle.netlist.proofs.Exits.{left_for}
use Rattle.netlist.proofs.Stages.{opened, closed, edge_none, edge_wrong, edge_good}
use Rattle.netlist.proofs.lines.read_edges.Goals as goal

-- The next line is the first of those that are left.
left : (n e b : ℕ) (l : List ℕ) (net : Netlist) {whole : Lines} → e < n → edges_from (n - e) e b l net ≡ whole
    → edges_from (suc (n - (e + 1))) e b l net ≡ whole
left n e b l net h p = let q : n - e ≡ suc (n - (e + 1)) = omega arith in rw q at p

pub returns-in_err-b : goal.returns-in_err-b
returns-in_err-b c =
    let t = c.args.text.now in
    let net₀ = c.args.noded.net in
    let l = c.loop-e in
    let none = c.in_err-b.ensures.ok_part in
    let here = left net₀.edges l.e (line_of_edge net₀ l.e) (drop l.at t) l.net c.loop-e-test.true l.invariant.2 in
    rw (left_for c.from_residual.ensures none c.in_err-b.ensures.value)
    (sym here ∙ edge_none t l.at _ l.e (line_of_edge net₀ l.e) l.net (closed 3 9 l.at t (sym none ∙ c.line.ensures)))

pub returns-then-not-edge_fits : goal.returns-then-not-edge_fits
returns-then-not-edge_fits c =
    let t = c.args.text.now in
    let net₀ = c.args.noded.net in
    let l = c.loop-e in
    let u = c.from_be_bytes-from in
    let v = c.from_be_bytes-to in
    let s = c.from_be_bytes-start in
    let line = opened 3 9 l.at t (sym c.in_ok-b.ensures.ok_part ∙ c.line.ensures) in
    let wrong =
    ap (λ n. edge_fits n (graph_of l.net).kind u.result v.result (get_or c.in_ok-b.b 4 0) s.result) l.invariant.0 ∙ sym c.edge_fits.ensures ∙ c.if-not-edge_fits.true
    in
    let here = left net₀.edges l.e (line_of_edge net₀ l.e) (drop l.at t) l.net c.loop-e-test.true l.invariant.2 in
    sym here ∙ edge_wrong t l.at _ l.e (line_of_edge net₀ l.e) l.net _ line _ _ _ _ u.ensures v.ensures refl s.ensures wrong

pub overflow_add-at : goal.overflow_add-at
overflow_add-at c =
    let line = opened 3 9 c.loop-e.at c.args.text.now (sym c.in_ok-b.ensures.ok_part ∙ c.line.ensures) in
    omega (arith, line.room, c.well_formed)

pub loop-e-preserved : goal.loop-e-preserved
loop-e-preserved c =
    let t = c.args.text.now in
    let net₀ = c.args.noded.net in
    let l = c.loop-e in
    let u = c.from_be_bytes-from in
    let v = c.from_be_bytes-to in
    let s = c.from_be_bytes-start in
    let line = opened 3 9 l.at t (sym c.in_ok-b.ensures.ok_part ∙ c.line.ensures) in
    let good =
    ap (λ n. edge_fits n (graph_of l.net).kind u.result v.result (get_or c.in_ok-b.b 4 0) s.result) l.invariant.0 ∙ sym c.edge_fits.ensures ∙ c.if-not-edge_fits.false
    in
    let here = left net₀.edges l.e (line_of_edge net₀ l.e) (drop l.at t) l.net c.loop-e-test.true l.invariant.2 in
    let next : line_of_edge net₀ (l.e + 1) ≡ line_of_edge net₀ l.e + 1 = omega arith in (
      l.invariant.0,
      l.invariant.1,
      rw next
          (sym (edge_good t l.at (net₀.edges - (l.e + 1)) l.e (line_of_edge net₀ l.e) l.net _ line _ _ _ _ u.ensures v.ensures refl s.ensures good) ∙ here),
    )

pub returns : goal.returns
unfolding edges_from
returns c =
    let l = c.loop-e in
    let net₀ = c.args.noded.net in
    let q : net₀.edges - l.e ≡ 0 = omega arith in
    let n : line_of_edge net₀ l.e ≡ line_of_edge l.net l.net.edges = omega (arith, l.invariant) in
    sym (rw (q, n) at l.invariant.2)

-- `netlist::lines::read_head` meets its contract: no head line, a head out of range, a head.
use Rattle.std.proofs.Common.{◌≡◌, arith, ap, refl, sym, ◌∙◌, subst, drop}
use Rattle.netlist.specs.Net.{with_head}
use Rattle.netlist.specs.Read.{first_line, lines_of, nodes_from}
use Rattle.netlist.proofs.Fields.{line_size}
use Rattle.netlist.proofs.Fits.{head_fits_means}
use Rattle.netlist.proofs.Exits.{left_for}
use Rattle.netlist.proofs.Stages.{opened, closed, head_none, head_wrong, head_good}
use Rattle.netlist.proofs.lines.read_head.Goals as goal

pub returns-in_err-b : goal.returns-in_err-b
returns-in_err-b c =
    let none = c.in_err-b.ensures.ok_part in
    rw (left_for c.from_residual.ensures none c.in_err-b.ensures.value) (head_none _ (closed 1 7 0 _ (sym none ∙ c.line.ensures)))

pub returns-then-not-head_fits : goal.returns-then-not-head_fits
returns-then-not-head_fits c =
    head_wrong _ _ (opened 1 7 0 _ (sym c.in_ok-b.ensures.ok_part ∙ c.line.ensures)) _ _ _ _
    c.from_be_bytes-period.ensures refl c.from_be_bytes-nodes.ensures c.from_be_bytes-edges.ensures (sym c.head_fits.ensures ∙ c.if-not-head_fits.true)

pub returns : goal.returns
unfolding with_head
returns c =
    let t = c.args.text.now in
    subst (λ net. lines_of t ≡ nodes_from net.nodes 0 (first_line net) (drop (line_size 7) t) net) (sym c.with_head.ensures)
    (head_good t _ (opened 1 7 0 t (sym c.in_ok-b.ensures.ok_part ∙ c.line.ensures)) _ _ _ _
    c.from_be_bytes-period.ensures refl c.from_be_bytes-nodes.ensures c.from_be_bytes-edges.ensures (sym c.head_fits.ensures ∙ c.if-not-head_fits.false))

pub invariant_of-result : goal.invariant_of-result
unfolding with_head
invariant_of-result c =
    let h = head_fits_means _ _ _ _ (sym c.head_fits.ensures ∙ c.if-not-head_fits.false) in
    let n : c.with_head.result.nodes ≡ c.from_be_bytes-nodes.result = ap (λ k. k.nodes) c.with_head.ensures in
    let m : c.with_head.result.edges ≡ c.from_be_bytes-edges.result = ap (λ k. k.edges) c.with_head.ensures in
    record { nodes_fit = omega (arith, h.2); edges_fit = omega (arith, h.3) }

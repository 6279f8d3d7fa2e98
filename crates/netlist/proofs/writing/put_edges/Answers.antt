use Rattle.std.proofs.Common.{◌≡◌, ◌+◌, arith, rules, ap, ap₂, ◌∙◌, length}
use Rattle.std.proofs.lemmas.List.Edits.{sets}
use Rattle.frame.specs.Frame.{line_of, placed}
use Rattle.netlist.specs.Write.{edge_line, joined}
use Rattle.netlist.proofs.Written.{joined_more, joined_part, edge_length, put_more}
use Rattle.netlist.proofs.writing.put_edges.Goals as goal

pub loop-e-init : goal.loop-e-init
unfolding joined
loop-e-init c = search rules

-- There is room for the line.
pub overflow_add-at : goal.overflow_add-at
overflow_add-at c =
    let f = edge_line c.args.net.now in
    let i = c.loop-e.e in
    omega (arith, joined_part f c.args.net.now.edges i (omega arith), joined_more f i, edge_length c.args.net.now i, c.well_formed)

pub loop-e-preserved : goal.loop-e-preserved
loop-e-preserved c =
    let here = c.loop-e in
    let a = c.args in (
      omega (arith, joined_more (edge_line a.net.now) here.e, edge_length a.net.now here.e),
      c.put_line.ensures
          ∙ ap (placed _ _) (ap line_of c.edge_bytes.ensures)
          ∙ ap₂ (λ l at. placed l at (edge_line a.net.now here.e)) here.invariant.1 here.invariant.0
          ∙ put_more (edge_line a.net.now) a.out.now a.at0 here.e (omega (arith, joined_part (edge_line a.net.now) a.net.now.edges here.e (omega arith))),
    )

pub returns : goal.returns
returns c =
    let here = c.loop-e in
    let net = c.args.net.now in
    let e : here.e ≡ net.edges = omega arith in (
      here.invariant.1 ∙ ap (λ n. sets c.args.out.now c.args.at0 (joined (edge_line net) n)) e,
      here.invariant.0 ∙ ap (λ n. c.args.at0 + length (joined (edge_line net) n)) e,
    )

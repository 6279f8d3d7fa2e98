use Rattle.std.proofs.Common.{◌≡◌, ◌+◌, arith, rules, ap, ap₂, ◌∙◌, length}
use Rattle.std.proofs.lemmas.List.Edits.{sets}
use Rattle.frame.specs.Frame.{placed}
use Rattle.netlist.specs.Write.{node_line, joined}
use Rattle.netlist.proofs.Written.{joined_more, joined_part, node_length, put_more}
use Rattle.netlist.proofs.writing.put_nodes.Goals as goal

pub loop-i-init : goal.loop-i-init
unfolding joined
loop-i-init c = search rules

-- There is room for the line.
pub overflow_add-at : goal.overflow_add-at
overflow_add-at c =
    let f = node_line c.args.net.now in
    let i = c.loop-i.i in
    omega (arith, joined_part f c.args.net.now.nodes i (omega arith), joined_more f i, node_length c.args.net.now i, c.well_formed)

pub loop-i-preserved : goal.loop-i-preserved
loop-i-preserved c =
    let here = c.loop-i in
    let a = c.args in (
      omega (arith, joined_more (node_line a.net.now) here.i, node_length a.net.now here.i),
      c.put_line.ensures
          ∙ ap₂ (λ l at. placed l at (node_line a.net.now here.i)) here.invariant.1 here.invariant.0
          ∙ put_more (node_line a.net.now) a.out.now a.at0 here.i (omega (arith, joined_part (node_line a.net.now) a.net.now.nodes here.i (omega arith))),
    )

pub returns : goal.returns
returns c =
    let here = c.loop-i in
    let net = c.args.net.now in
    let e : here.i ≡ net.nodes = omega arith in (
      here.invariant.1 ∙ ap (λ n. sets c.args.out.now c.args.at0 (joined (node_line net) n)) e,
      here.invariant.0 ∙ ap (λ n. c.args.at0 + length (joined (node_line net) n)) e,
    )

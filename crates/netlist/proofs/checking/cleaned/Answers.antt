-- `netlist::checking::cleaned` meets its contract, column by column.
use Rattle.std.proofs.Common.{arith, rules, ◌∙◌}
use Rattle.netlist.specs.Net.{net_with}
use Rattle.netlist.proofs.Rows.{front_rows}
use Rattle.netlist.proofs.checking.cleaned.Goals as goal

pub returns : goal.returns
returns c =
    let net = c.args.net in
    let k = c.front.ensures ∙ front_rows 512 net.nodes net.kind (search rules) (omega arith) in
    let l = c.front-2.ensures ∙ front_rows 512 net.nodes net.delay (search rules) (omega arith) in
    let u = c.front-3.ensures ∙ front_rows 1024 net.edges net.from (search rules) (omega arith) in
    let v = c.front-4.ensures ∙ front_rows 1024 net.edges net.to (search rules) (omega arith) in
    let w = c.front-5.ensures ∙ front_rows 1024 net.edges net.count (search rules) (omega arith) in
    let s = c.front-6.ensures ∙ front_rows 1024 net.edges net.start (search rules) (omega arith) in
    λ j. net_with net.period net.derate net.nodes net.edges (k j) (l j) (u j) (v j) (w j) (s j)

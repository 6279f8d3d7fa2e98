-- `starts::nodes::asked` meets its contract: the nodes of the list are picked where they are asked for.
use Rattle.std.proofs.Common.{rules, tests}
use Rattle.starts.proofs.Kept.{asked_at, asked_picks}
use Rattle.starts.proofs.nodes.asked.Goals as goal

pub returns : goal.returns
returns c =
    let a = c.args in
    asked_picks a.lab.now a.s a.list.now (c.picked.ensures (asked_at a.lab.now a.s a.list.now) (λ i o l q. search (rules, tests)))

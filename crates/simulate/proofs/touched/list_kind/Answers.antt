-- `simulate::touched::list_kind` meets its contract: the nodes are picked by their kind.
use Rattle.std.proofs.Common.{rules, tests}
use Rattle.simulate.proofs.Listed.{keyed, listed_picks}
use Rattle.simulate.proofs.touched.list_kind.Goals as goal

pub returns : goal.returns
returns c =
    let net = c.args.circuit.net.now in
    let k = c.from-number.result in
    rw (← c.from-number.ensures) (listed_picks net.kind k (c.picked.ensures (keyed net.kind k) (λ v o l q. search (rules, tests))))

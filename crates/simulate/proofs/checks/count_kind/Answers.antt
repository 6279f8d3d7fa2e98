-- `simulate::checks::count_kind` meets its contract: the nodes that are kept are counted.
use Rattle.std.proofs.Common.{◌≡◌, length, arith, rules, tests, ap, ◌∙◌}
use lib.Dec.{eqb}
use Rattle.std.proofs.lemmas.Iterator.{YieldsList-from_slice, YieldsList-from_take}
use Rattle.std.proofs.lemmas.Iterator.Consumers.{YieldsList-from_filter, YieldsList-at, count_from_yields_List}
use Rattle.simulate.specs.Clock.{earlier}
use Rattle.simulate.proofs.Asked.{counted}
use Rattle.simulate.proofs.checks.count_kind.Goals as goal

pub returns : goal.returns
returns c =
    let net = c.args.circuit.net.now in
    let rows : length net.kind ≡ 512 = search rules in
    let k = c.from-number.result in
    count_from_yields_List c.filter.result _ c.count.ensures.ran
    (YieldsList-from_filter _ (λ x. eqb x k) (YieldsList-at c.filter.ensures.source (YieldsList-from_take net.nodes (YieldsList-at c.take-kinds.ensures.source (YieldsList-from_slice net.kind (cc))) (c.take-kinds.ensures.count ∙ c.from.ensures))) c.filter.ensures.closure (λ x r q k. search (rules, tests)))
    ∙ counted net k net.nodes (omega arith) ∙ ap (λ k. earlier net k net.nodes) c.from-number.ensures

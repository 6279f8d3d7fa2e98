-- Cards A to J and S as texts, under one theorem: each row is one test that antt computes, beside the row of the theory's table.
--   cards_hold
--   demand_asks         demand 3 is not empty
use native.Mathlib.Omega.{arith}
use mathlib.Core.Path.{◌≡◌, refl, sym, ap, subst}
use lib.ListN.{length, get_or, take}
use Rattle.theory.specs.Clock.{seen_if, seen, only, gather, sees, node_if, value_in, value as value_of}
use Rattle.theory.specs.Move.{sum}
use Rattle.theory.specs.Step.{one_clock}
use Rattle.theory.proofs.cards.Tests.{all_elim}
use Rattle.theory.proofs.cards.Table.{in_line}
use Rattle.theory.proofs.cards.Table as Table
use Rattle.netlist.specs.Answer.{value}
use Rattle.netlist.specs.Read.{Reads}
use Rattle.netlist.specs.Net.{zeros}
use Rattle.rules.specs.Rules.{rule_of, head_fits, node_fits, edge_fits}
use Rattle.netlist.specs.Write.{joined, text_of}
use Rattle.netlist.proofs.theorems.One.{one_reading}
use Rattle.netlist.proofs.theorems.Sound.{reads_text}
use Rattle.simulate.specs.Clock.{earlier, values, output_values, words_after}
use Rattle.simulate.specs.Step.{only_bits}
use Rattle.simulate.specs.Run.{clocks_from}
use Rattle.retime.specs.Demand.{ComesBack, table_lag, Came}
use Rattle.retime.specs.Card.{A, Claim, CardsHold, DemandAsks}
use Rattle.retime.proofs.cards.Net.{net_of, first, derived}
use Rattle.retime.proofs.cards.Reads.{reads_yes}
use Rattle.retime.proofs.cards.Claims.{passes, card_claim}
use Rattle.retime.proofs.theorems.Outcome.{one_outcome}
use Rattle.retime.proofs.theorems.Demand.{comes_asked, demand_follows}

pub cards_hold : CardsHold
unfolding net_of zeros rule_of head_fits node_fits edge_fits sum seen_if seen only gather sees node_if value_in value_of one_clock joined earlier values output_values words_after clocks_from only_bits
cards_hold k h =
    subst Claim (sym (derived k))
    (card_claim (get_or Table.cards k first) (all_elim (length Table.cards) (λ j. passes (get_or Table.cards j first)) tt k h) (Table.table k h))

reads_a : Reads A.text (value 0) (net_of in_line 1)
unfolding net_of zeros rule_of head_fits node_fits edge_fits only gather
reads_a = subst (λ c. Reads c.text (value 0) (net_of in_line 1)) (sym (derived 0)) (reads_yes in_line 1 tt)

-- The card's own outcome comes back, so it is asked for; and there is no other outcome.
pub demand_asks : DemandAsks
unfolding net_of
demand_asks out lags a b =
    let net = net_of in_line 1 in
    let (net', reads, nodes, claim) = cards_hold 0 (omega arith) in
    let same : net ≡ net' = (one_reading A.text (value 0) (value 0) net net' reads_a reads).1 in
    let own : A.text ≡ text_of net = reads_text reads_a in
    let o = claim out lags (record { text = omega (arith, a, ap length own, ap (λ n. length (text_of n)) same); table = omega (arith, ap (λ n. n.nodes) same) }) in
    let asked = comes_asked A.text out lags _ _ _ net reads_a o (0, refl) in (
      net,
      asked,
      λ s out' lags' x.
          let back : ComesBack s = (0, (one_outcome A.text out lags s (value 0) out' _ lags' _ x o).0) in
          (back, subst (λ t. Came A.text net (take (length t) out') (table_lag lags')) (sym own) ((demand_follows A.text out lags s out' lags' x).came net reads_a back)),
    )

-- `simulate::checks::words_fit` meets its contract: every word fits, or some word does not.
use Rattle.std.proofs.Common.{◌≡◌, length, ◌^◌, true, false, arith, rules, tests, take}
use lib.Dec.{ltb}
use Rattle.std.proofs.lemmas.Iterator.{YieldsList-from_slice, YieldsList-from_zip, cases_from_all}
use Rattle.std.proofs.lemmas.Iterator.Consumers.{YieldsList-at}
use Rattle.std.proofs.lemmas.Grind.{common_steps}
use Rattle.simulate.proofs.Asked.{fits_told}
use Rattle.simulate.proofs.checks.words_fit.Goals as goal

pub returns : goal.returns
returns c =
    let net = c.args.circuit.net.now in
    let rows : length net.count ≡ 1024 = search rules in
    fits_told net c.args.words.now net.edges c.requires (omega arith) _ (cases_from_all c.all.new.self _ _ (λ p. ltb p.0 (2 ^ p.1) ≡ true) (λ p. ltb p.0 (2 ^ p.1) ≡ false) c.all.ensures.ran
    (YieldsList-from_zip (YieldsList-at c.zip-beside.ensures.first (YieldsList-from_slice (take net.edges c.args.words.now) (grind (arith, common_steps)))) (YieldsList-from_slice net.count (search rules))) (λ x q k. search (rules, tests)) (λ x q k. search (rules, tests)))

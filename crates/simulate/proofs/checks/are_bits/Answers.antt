-- `simulate::checks::are_bits` meets its contract: every byte is a bit, or some byte is not.
use Rattle.std.proofs.Common.{◌<◌, ◌≤◌, rules, tests}
use Rattle.std.proofs.lemmas.Iterator.{YieldsList-from_slice, cases_from_all}
use Rattle.simulate.proofs.Asked.{bits_told}
use Rattle.simulate.proofs.checks.are_bits.Goals as goal

pub returns : goal.returns
returns c =
    bits_told _ _ (cases_from_all _ _ _ (λ x. x ≤ 1) (λ x. 1 < x) c.all.ensures.ran (YieldsList-from_slice c.args.vector.now cc) (λ x q k. search (rules, tests)) (λ x q k. search (rules, tests)))

-- `rules::bits_fit` meets its contract, by the law of leading zeros.
use Rattle.std.proofs.Common.{◌≡◌, ◌-◌, arith}
use Rattle.rules.proofs.Words.{word_clear}
use Rattle.rules.proofs.bits_fit.Goals as goal

pub returns : goal.returns
returns c =
    let e : c.saturating_sub.result ≡ 32 - c.args.count = omega (arith, c.from.ensures) in
    rw e (word_clear c.args.word c.args.count c.ranges.word.fits)

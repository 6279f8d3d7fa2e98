-- `lags::times::working` meets its contract.
use Rattle.std.proofs.Common.{◌*◌, arith, sym}
use Rattle.netlist.specs.Net.{working}
use Rattle.netlist.proofs.theorems.Halves.{rounded_sum}
use Rattle.lags.proofs.Arrivals.{product_small}
use Rattle.lags.proofs.times.working.Goals as goal

pub returns : goal.returns
unfolding working
returns c =
    rw (c.from.ensures, c.from-2.ensures) (
      sym (rounded_sum (c.args.delay * c.args.derate)),
      omega (arith, product_small c.args.delay c.args.derate c.ranges.delay.fits c.ranges.derate.fits),
    )

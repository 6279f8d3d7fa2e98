-- `printing::retiming::listing` meets its contract: there is room for all that is printed of 32,768 bytes, and more decides nothing.
use Rattle.std.proofs.Common.{◌≡◌, min, length, rules, refl}
use Rattle.netlist.specs.Net.{zeros}
use Rattle.printing.proofs.Cases.{front_is, shows}
use Rattle.printing.proofs.retiming.listing.Goals as goal

pub returns : goal.returns
unfolding zeros
returns c =
    let front : c.min-looked_at.result ≡ min 32768 (length c.args.text.now) = search rules in
    shows _ _ _ _ refl (front_is _ _ front) c.list-len.ensures

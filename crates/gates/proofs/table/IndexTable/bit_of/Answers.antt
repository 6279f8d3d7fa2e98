-- `gates::table::IndexTable::bit_of` meets its contract: a truth word has nine bits.
use Rattle.std.proofs.Common.{arith}
use Rattle.gates.proofs.Reckons.{picked_few}
use Rattle.gates.proofs.table.IndexTable.bit_of.Goals as goal

pub returns : goal.returns
returns c = let e = c.args.self.now.table.picks c.args.word c.requires in (omega arith, omega (arith, picked_few c.args.word))

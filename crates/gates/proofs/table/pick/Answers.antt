-- `gates::table::pick` meets its contract: ones are counted below 256.
use borrow.Author.Tests.{lt-ltb, le-ltb}
use Rattle.gates.specs.inner.Gates.{picked}
use Rattle.gates.proofs.table.pick.Goals as goal

pub returns-then-word-lt256 : goal.returns-then-word-lt256
unfolding picked
returns-then-word-lt256 c = rw (lt-ltb c.args.word 256 c.if-word-lt256.true)

pub returns-else-word-lt256 : goal.returns-else-word-lt256
unfolding picked
returns-else-word-lt256 c = rw (le-ltb c.args.word 256 c.if-word-lt256.false)

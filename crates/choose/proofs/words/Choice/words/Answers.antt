-- `choose::words::Choice::words` meets its contract.
use Rattle.std.proofs.Common.{rules, arith, ◌<◌, ◌-◌, length}
use Rattle.choose.proofs.words.Choice.words.Goals as goal

pub returns : goal.returns
returns c e h =
    let l : e < length c.args.base.now - 1 = omega arith in
    let k = c.column.ensures.made_of e l in
    search rules

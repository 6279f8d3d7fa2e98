-- `retime::retime_net` meets its contract: 12, 8, and else what is said of the least lags.
use Rattle.std.proofs.Common.{◌≡◌, length, arith, rules, inl, inr}
use Rattle.lags.proofs.Laws.{read_sure}
use Rattle.retime.specs.Retime.{Room}
use Rattle.retime.proofs.Call.{short, none}
use Rattle.retime.proofs.Stages.{labelled}
use Rattle.retime.proofs.retime_net.Goals as goal
use Rattle.retime.proofs.retime_net.Goals.{then-out-written_len-via-then-out-written_len, then-out-written_len-via-else-out-written_len+then-lags-nodes}

pub returns-then-out-written_len : goal.returns-then-out-written_len
returns-then-out-written_len c =
    let a = c.args in
    elim c.then-out-written_len.branch [
      | then-out-written_len-via-then-out-written_len w ↦ short a.out.now a.lags.now a.net (inl (omega (arith, c.written_len.ensures)))
      | then-out-written_len-via-else-out-written_len+then-lags-nodes w ↦ short a.out.now a.lags.now a.net (inr (omega arith))
    ]

pub least-requires : goal.least-requires
least-requires c = (read_sure _ c.args.net c.requires, omega arith)

pub returns-in_default : goal.returns-in_default
returns-in_default c =
    let a = c.args in
    let room : Room a.out.now a.lags.now a.net = record { text = omega (arith, c.written_len.ensures); table = omega arith } in
    none a.net room (rw (← c.from.ensures) c.in_default.ensures)

pub invariant_of-least : goal.invariant_of-least
invariant_of-least c =
    let a = c.args in
    let l = rw c.from.ensures at c.in-Some.ensures in
    let rows : length c.in-Some.lab ≡ 512 = search rules in
    record { labelled = labelled _ a.net c.in-Some.lab c.requires rows l.small l.least }

pub retime_by-requires-clause-reads : goal.retime_by-requires-clause-reads
retime_by-requires-clause-reads c = let l = rw c.from.ensures at c.in-Some.ensures in (c.requires, l.least)

pub retime_by-requires-clause-room : goal.retime_by-requires-clause-room
retime_by-requires-clause-room c = record { text = omega (arith, c.written_len.ensures); table = omega arith }

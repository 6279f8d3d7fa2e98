-- `printing::sharing::put_rails` meets its contract: the lines of the total and of the nodes' rails, or the line of the refusal.
use Rattle.std.proofs.Common.{arith, sym}
use lib.Seq.{length-take-le}
use Rattle.printing.proofs.Shared.{reads_too, rails_room, prints_lines}
use Rattle.printing.proofs.sharing.put_rails.Goals as goal

pub slice_bounds-put_counted-end : goal.slice_bounds-put_counted-end
slice_bounds-put_counted-end c =
    omega (arith, c.from.ensures, rails_room _ _ _ c.in-Ok.ensures _ c.in-Ok-read.ensures c.rails.auto.table)

pub slice_bounds-put_counted-end-in-Ok-read : goal.slice_bounds-put_counted-end-in-Ok-read
slice_bounds-put_counted-end-in-Ok-read c =
    sym (length-take-le _ _ (omega (arith, c.from.ensures, rails_room _ _ _ c.in-Ok.ensures _ c.in-Ok-read.ensures c.rails.auto.table)))

pub put_counted-requires : goal.put_counted-requires
put_counted-requires c =
    let room = rails_room _ _ _ c.in-Ok.ensures _ c.in-Ok-read.ensures c.rails.auto.table in
    omega (arith, c.from.ensures, room, length-take-le c.from.result c.rails.new.table (omega (arith, c.from.ensures, room)))

pub returns-in-Ok-read-clause-prints_rails : goal.returns-in-Ok-read-clause-prints_rails
returns-in-Ok-read-clause-prints_rails c =
    let room = rails_room _ _ _ c.in-Ok.ensures _ c.in-Ok-read.ensures c.rails.auto.table in
    prints_lines _ _ _ c.in-Ok.ensures _ c.in-Ok-read.ensures _ _ _ room.1
    (rw (← c.from.ensures) c.put_counted.ensures.out_after) (rw (← c.from.ensures) c.put_counted.ensures.value)

pub returns-in-Err-read-clause-prints_rails : goal.returns-in-Err-read-clause-prints_rails
returns-in-Err-read-clause-prints_rails c = absurd (reads_too _ _ _ c.in-Ok.ensures c.in-Err-read.ensures)

-- `frame::put_line` meets its contract: all of the line is put, or nothing.
use Rattle.std.proofs.Common.{◌+◌, ◌*◌, length, arith, ap, sym, refl, ◌∙◌}
use lib.ListN.{set}
use borrow.Author.Tests.{leb-true, leb-false}
use Rattle.frame.proofs.Steps.{put_end, put_full}
use Rattle.frame.proofs.put_line.Goals as goal

pub returns-then-not-has_room : goal.returns-then-not-has_room
returns-then-not-has_room c =
    let short = leb-false _ _ (sym c.has_room.ensures ∙ c.if-not-has_room.true) in
    sym (put_full c.args.bytes.now c.args.out.now c.args.at _ refl (omega arith))

pub returns : goal.returns
returns c =
    let a = c.args in
    let room = leb-true _ _ (sym c.has_room.ensures ∙ c.if-not-has_room.false) in
    ap (λ l. set l (a.at + 2 * length a.bytes.now) 10) c.put_bytes.ensures ∙ put_end a.bytes.now a.out.now a.at _ refl (omega arith)

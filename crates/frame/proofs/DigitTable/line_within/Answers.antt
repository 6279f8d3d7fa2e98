-- `frame::DigitTable::line_within` meets its contract: no line passes the end of the text, and the kind's byte is read first.
use Rattle.std.proofs.Common.{drop, length-drop, arith, ap, sym, ◌∙◌}
use borrow.Author.Tests.{leb-true, leb-false}
use Rattle.frame.specs.inner.Decoded.{filled_up}
use Rattle.frame.proofs.Steps.{frame_short, kind_same, kind_other, kind_none}
use Rattle.frame.proofs.DigitTable.line_within.Goals as goal

pub returns-then-not-has_room : goal.returns-then-not-has_room
returns-then-not-has_room g c =
    let a = c.args in
    let short = leb-false _ _ (sym c.has_room.ensures ∙ c.if-not-has_room.true) in
    ap (filled_up g.row.M) (sym (frame_short a.kind a.n (drop a.at a.text.now) (rw length-drop (omega arith))))

pub returns-in_err-b : goal.returns-in_err-b
returns-in_err-b g c =
    let room = leb-true _ _ (sym c.has_room.ensures ∙ c.if-not-has_room.false) in
    c.from_residual.ensures ∙ ap (filled_up g.row.M) (sym (kind_none c.args.kind c.args.n c.args.at c.args.text.now (omega arith) (sym c.in_err-b.ensures)))

pub returns-then-b-kind : goal.returns-then-b-kind
returns-then-b-kind g c =
    let room = leb-true _ _ (sym c.has_room.ensures ∙ c.if-not-has_room.false) in
    ap (filled_up g.row.M) (sym (kind_other c.args.kind c.args.n c.args.at c.args.text.now (omega arith) _ (sym c.in_ok-b.ensures) c.if-b-kind.true))

pub returns : goal.returns
returns g c =
    let room = leb-true _ _ (sym c.has_room.ensures ∙ c.if-not-has_room.false) in
    let kind = sym (rw c.if-b-kind.false at c.in_ok-b.ensures) in
    c.bytes_at.ensures ∙ ap (filled_up g.row.M) (sym (kind_same c.args.kind c.args.n c.args.at c.args.text.now (omega arith) kind))

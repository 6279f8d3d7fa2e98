-- `printing::running::put_bits` meets its contract: the digits, where there is room.
use Rattle.std.proofs.Common.{length, sym, ◌∙◌, arith}
use borrow.Author.Tests.{le-leb, lt-leb}
use Rattle.frame.proofs.Buffers.{placed_room, placed_full}
use Rattle.printing.specs.Printed.{digit_line}
use Rattle.printing.proofs.Digits.{length_digits}
use Rattle.printing.proofs.running.put_bits.Goals as goal

pub returns-then-out-bits-clause-out_after : goal.returns-then-out-bits-clause-out_after
returns-then-out-bits-clause-out_after c =
    let a = c.args in
    let long = length_digits a.bits.now in
    sym (placed_full a.out.now 0 (digit_line a.bits.now) (omega arith))

pub returns-then-out-bits-clause-value : goal.returns-then-out-bits-clause-value
returns-then-out-bits-clause-value c =
    let a = c.args in
    let long = length_digits a.bits.now in
    rw (lt-leb (length (digit_line a.bits.now)) (length a.out.now) (omega arith))

pub returns-clause-out_after : goal.returns-clause-out_after
returns-clause-out_after c =
    let a = c.args in
    let long = length_digits a.bits.now in
    c.put_digits.ensures ∙ sym (placed_room a.out.now 0 (digit_line a.bits.now) (omega arith))

pub returns-clause-value : goal.returns-clause-value
returns-clause-value c =
    let a = c.args in
    let long = length_digits a.bits.now in
    rw (le-leb (length (digit_line a.bits.now)) (length a.out.now) (omega arith)) (sym long)

-- `frame::DigitTable::byte` meets its contract: both values are looked up.
use Rattle.std.proofs.Common.{◌≡◌, get_or, arith, sym}
use Rattle.frame.specs.Frame.{digit_of}
use Rattle.frame.proofs.Digits.{byte_good, byte_bad}
use Rattle.frame.proofs.DigitTable.byte.Goals as goal

pub returns-then-low-lt-NO_DIGIT : goal.returns-then-low-lt-NO_DIGIT
returns-then-low-lt-NO_DIGIT c =
    let high : get_or c.args.self.now.values c.args.high 0 ≡ digit_of c.args.high = c.args.self.now.digits.values _ (omega arith) in
    let low : get_or c.args.self.now.values c.args.low 0 ≡ digit_of c.args.low = c.args.self.now.digits.values _ (omega arith) in
    rw (high, low) (sym (byte_good c.args.high c.args.low (omega arith) (omega arith)))

pub returns-else-high-lt-NO_DIGIT : goal.returns-else-high-lt-NO_DIGIT
returns-else-high-lt-NO_DIGIT c =
    let high : get_or c.args.self.now.values c.args.high 0 ≡ digit_of c.args.high = c.args.self.now.digits.values _ (omega arith) in
    let low : get_or c.args.self.now.values c.args.low 0 ≡ digit_of c.args.low = c.args.self.now.digits.values _ (omega arith) in
    sym (byte_bad c.args.high c.args.low (λ h k. omega (arith, c.else-high-lt-NO_DIGIT.either)))

-- `printing::running::put_digits` meets its contract.
use Rattle.std.proofs.Common.{◌≡◌, length, ap, ap₂, ◌∙◌, arith, map, take, set}
use Rattle.std.proofs.lemmas.List.Edits.{sets}
use lib.Seq.{take_all}
use Rattle.printing.specs.Printed.{bit_digit}
use Rattle.printing.proofs.Digits.{digits_more, digits_end}
use Rattle.printing.proofs.running.put_digits.Goals as goal

pub loop-i-preserved : goal.loop-i-preserved
loop-i-preserved c =
    let here = c.loop-i in
    let a = c.args in
    ap₂ (λ l d. set l here.i d) here.invariant c.digit.ensures ∙ digits_more a.bits.now a.out.now here.i (omega arith)

pub returns : goal.returns
returns c =
    let a = c.args in
    let all : take c.loop-i.i a.bits.now ≡ a.bits.now = take_all c.loop-i.i a.bits.now (omega arith) in
    ap (λ l. set l (length a.bits.now) 10) (c.loop-i.invariant ∙ ap (λ l. sets a.out.now 0 (map bit_digit l)) all) ∙ digits_end a.bits.now a.out.now

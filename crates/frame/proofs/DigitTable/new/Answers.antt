use Rattle.std.proofs.Common.{◌+◌, arith, sym, subst}
use lib.ListN.{set}
use Rattle.frame.proofs.Digits.{Entered, entered_none, entered_more, entered_all}
use Rattle.frame.proofs.DigitTable.new.Goals as goal

pub loop-d-init : goal.loop-d-init
loop-d-init c = entered_none

pub loop-d-preserved : goal.loop-d-preserved
loop-d-preserved c =
    let l = c.loop-d in
    subst (λ k. Entered (l.d + 1) (set l.values k l.d)) (sym c.char_of.ensures) (entered_more l.d l.values l.invariant (omega arith))

pub invariant_of-result : goal.invariant_of-result
invariant_of-result c = let l = c.loop-d in record { digits = entered_all l.d l.values l.invariant (omega arith) }

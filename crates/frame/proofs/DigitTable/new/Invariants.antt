-- `frame::DigitTable::new` meets its contract. The loop's invariant: the digits below d are entered.
use Rattle.frame.proofs.Digits.{Entered}
use Rattle.frame.proofs.DigitTable.new.Given as goal

abbrev pub invariant-loop-d : goal.invariant-loop-d
invariant-loop-d l = Entered l.d l.values

-- `printing::running::put_digits` meets its contract. The loop's invariant: the digits of the bits below i stand at the front.
use Rattle.std.proofs.Common.{◌≡◌, map, take}
use Rattle.std.proofs.lemmas.List.Edits.{sets}
use Rattle.printing.specs.Printed.{bit_digit}
use Rattle.printing.proofs.running.put_digits.Given as goal

abbrev pub invariant-loop-i : goal.invariant-loop-i
invariant-loop-i l = l.out ≡ sets l.initial.out 0 (map bit_digit (take l.i l.bits))

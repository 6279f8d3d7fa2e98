-- `frame::put_bytes` meets its contract. The loop's invariant: the digits of the first `i` bytes stand in `out`, and nothing else has changed.
use Rattle.std.proofs.Common.{◌≡◌, take}
use Rattle.std.proofs.lemmas.List.Edits.{sets}
use Rattle.frame.specs.Frame.{hex_of}
use Rattle.frame.proofs.put_bytes.Given as goal

abbrev pub invariant-loop-i : goal.invariant-loop-i
invariant-loop-i l = l.out ≡ sets l.initial.out l.at (hex_of (take l.i l.bytes))

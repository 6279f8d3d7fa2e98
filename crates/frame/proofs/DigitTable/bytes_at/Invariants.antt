-- `frame::DigitTable::bytes_at` meets its contract. The loop's invariant: the bytes decoded so far, filled up with those of the rest of the line, are the
-- line's.
use Rattle.std.proofs.Common.{◌≡◌, ◌+◌, ◌*◌, ◌-◌, drop}
use Rattle.frame.specs.Frame.{line_at}
use Rattle.frame.specs.inner.Decoded.{filled_up}
use Rattle.frame.proofs.Steps.{fill}
use Rattle.frame.proofs.DigitTable.bytes_at.Given as goal

abbrev pub invariant-loop-i : goal.invariant-loop-i
invariant-loop-i g l = fill l.bytes l.i (line_at (l.n - l.i) (drop (l.at + 2 * l.i) l.text)) ≡ filled_up g.row.M (line_at l.n (drop l.at l.text))

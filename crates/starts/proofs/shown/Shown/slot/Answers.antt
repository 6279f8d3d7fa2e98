-- `starts::shown::Shown::slot` meets its contract, by the two cases of `slot_of`.
use Rattle.std.proofs.Common.{sym, arith}
use Rattle.starts.proofs.Slots.{slot_early, slot_late}
use Rattle.starts.proofs.shown.Shown.slot.Goals as goal

pub returns-then-s-count : goal.returns-then-s-count
returns-then-s-count c = let a = c.args in sym (slot_early a.self.from a.self.registers a.self.start a.s c.if-s-count.true)

pub returns : goal.returns
returns c = let a = c.args in omega (arith, slot_late a.self.from a.self.registers a.self.start a.s c.if-s-count.false)

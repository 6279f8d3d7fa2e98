-- `simulate::clocks::shift_in` meets its contract: the word's own half stands below the value, so OR adds them.
use Rattle.std.proofs.Common.{◌≡◌, ◌+◌, ◌-◌, ◌*◌, ◌/◌, ◌<◌, ◌^◌, arith, subst, ap, ◌∙◌}
use native.Mathlib.Nat.{add_comm}
use lib.Bits.{bit_or, or_shifted_r}
use lib.Pow.{shr_lt, shl_exact}
use borrow.Author.Tests.{ne_eqb}
use Rattle.simulate.proofs.clocks.shift_in.Goals as goal

pub returns : goal.returns
returns c =
    let a = c.args in
    let top = a.w - 1 in
    let h : a.word < 2 ^ (top + 1) = subst (λ n. a.word < 2 ^ n) (let y : a.w ≡ top + 1 = omega arith in y) c.requires.2 in
    rw (ne_eqb a.w 0 (omega arith))
    (ap (bit_or (a.word / 2)) (shl_exact 1 top 32 (let y : a.x < 2 ^ 1 = omega arith in y) (omega arith))
    ∙ or_shifted_r a.x top (a.word / 2) (shr_lt top 1 h) ∙ add_comm (a.x * 2 ^ top) (a.word / 2))

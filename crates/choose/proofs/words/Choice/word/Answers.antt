-- `choose::words::Choice::word` meets its contract: the word holds the values below t.
use Rattle.std.proofs.Common.{◌+◌, ◌*◌, ◌^◌, ◌<◌, arith, sym, subst, ◌∙◌}
use mathlib.Core.Path.{ap₂}
use Rattle.theory.specs.Move.{digit}
use Rattle.theory.proofs.numbers.Sums.{sum_none, sum_more}
use Rattle.theory.proofs.numbers.Digits.{digit_bit}
use Rattle.moves.proofs.Words.{word_fits}
use Rattle.choose.proofs.words.Choice.word.Goals as goal

pub loop-t-init : goal.loop-t-init
loop-t-init c = sum_none _

pub put_bit-word-requires : goal.put_bit-word-requires
put_bit-word-requires c =
    let l = c.loop-t in
    let a = c.args in (
      omega arith,
      subst (λ w. w < 2 ^ l.t) (sym l.invariant) (word_fits _ l.t (λ j h. digit_bit a.self.bits a.self.number (a.start + j))),
      omega (arith, c.bit.ensures, digit_bit a.self.bits a.self.number (a.start + l.t)),
    )

pub loop-t-preserved : goal.loop-t-preserved
loop-t-preserved c =
    let l = c.loop-t in
    let a = c.args in
    c.put_bit-word.ensures ∙ ap₂ (λ w x. w + x * 2 ^ l.t) l.invariant c.bit.ensures ∙ sym (sum_more (λ j. digit a.self.bits a.self.number (a.start + j) * 2 ^ j) l.t)

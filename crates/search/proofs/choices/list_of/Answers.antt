-- `search::choices::list_of` meets its contract: a filling is a bit, and a list has at most 24.
use Rattle.std.proofs.Common.{◌≡◌, ℕ, ◌+◌, ◌*◌, ◌^◌, ◌%◌, ◌≤◌, ◌<◌, List, length, arith, subst, sym, Option}
use lib.Pow.{shl_exact, pow_mono}
use Rattle.search.specs.inner.Program.{asked}
use Rattle.search.specs.inner.States.{ListOf}
use Rattle.search.proofs.Lists.{Filled, filled_bit, filled_none, filled_more, filled_few, filled_list}
use Rattle.search.proofs.choices.list_of.Goals as goal

pub loop-place-init : goal.loop-place-init
loop-place-init c = filled_none

pub overflow_mul-fillings : goal.overflow_mul-fillings
overflow_mul-fillings c = omega (arith, filled_few c.loop-place.invariant 23 (omega arith))

pub filling-requires : goal.filling-requires
filling-requires c i e = (c.requires.by_index c.loop-place.place-index i e).0

pub overflow_add-fillings : goal.overflow_add-fillings
overflow_add-fillings c =
    let l = c.loop-place in
    omega (arith, filled_few l.invariant 23 (omega arith), c.filling.ensures, filled_bit c.args.sig.now (asked c.args.fill.now l.place-index) (λ i e. (c.requires.by_index l.place-index i e).1))

pub loop-place-preserved : goal.loop-place-preserved
loop-place-preserved c =
    let l = c.loop-place in
    filled_more l.invariant c.filling.result
    (omega (arith, c.filling.ensures, filled_bit c.args.sig.now (asked c.args.fill.now l.place-index) (λ i e. (c.requires.by_index l.place-index i e).1))) c.filling.ensures

-- No bit is lost in the shift.
list : {fill : List (Option ℕ)} {sig : List ℕ} {n r k c : ℕ} → Filled fill sig n r → n ≡ length fill → c < 2 ^ k → n + k ≤ 24 → ListOf k fill sig c (r * 2 ^ k % 4294967296 + c)
list {fill} {sig} {n} {r} {k} {c} s e l few = subst (λ x. ListOf k fill sig c (x + c)) (sym (shl_exact n k 32 s.few (omega arith))) (filled_list s k c e l)

pub overflow_add-result : goal.overflow_add-result
overflow_add-result c =
    let l = list c.loop-place.invariant (omega arith) c.requires.choice_bound.0 (omega arith) in
    omega (arith, l.few, pow_mono {j = 24} c.requires.choice_bound.1)

pub returns : goal.returns
returns c = list c.loop-place.invariant (omega arith) c.requires.choice_bound.0 (omega arith)

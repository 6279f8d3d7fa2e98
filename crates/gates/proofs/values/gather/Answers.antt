-- `gates::values::gather` meets its contract: what is left, gathered behind the word, is all gathered behind the seed.
use Rattle.std.proofs.Common.{◌≡◌, ◌∷◌, map, drop, length, suc, ◌*◌, ◌^◌, ◌<◌, arith, ap, sym, subst, ◌∙◌, add-one}
use lib.Seq.{drop-cons}
use Rattle.std.proofs.lemmas.List.{drop_all}
use Rattle.graph.specs.Columns.{at}
use Rattle.gates.specs.inner.Gates.{word_from}
use Rattle.gates.proofs.Words.{word_more, word_wider, seed_narrow, seen_few}
use Rattle.gates.proofs.values.gather.Goals as goal

pub overflow_mul-word : goal.overflow_mul-word
overflow_mul-word c =
    let a = c.args in
    let l = c.loop-j in
    omega (arith, word_wider a.seed l.word l.j (length a.sees.now) l.invariant.2 (omega arith), seed_narrow a.seed (length a.sees.now) c.requires.narrow)

pub overflow_add-word : goal.overflow_add-word
overflow_add-word c =
    let a = c.args in
    let l = c.loop-j in
    omega (
      arith,
      word_wider a.seed l.word l.j (length a.sees.now) l.invariant.2 (omega arith),
      seed_narrow a.seed (length a.sees.now) c.requires.narrow,
      (c.requires.signals l.j (omega arith)).1,
    )

pub loop-j-preserved : goal.loop-j-preserved
unfolding word_from
loop-j-preserved c =
    let a = c.args in
    let l = c.loop-j in
    let x = at a.sig.now (at a.sees.now l.j) in (
      omega arith,
      sym (ap (λ p. word_from l.word (map (at a.sig.now) p)) (drop-cons a.sees.now l.j 0 (omega arith) ∙ ap (λ n. at a.sees.now l.j ∷ drop n a.sees.now) (sym (add-one l.j)))) ∙ l.invariant.1,
      rw add-one (word_more a.seed l.word x l.j l.invariant.2 (c.requires.signals l.j (omega arith)).1),
    )

pub returns-then-j-sees : goal.returns-then-j-sees
unfolding word_from
returns-then-j-sees c =
    let a = c.args in
    let l = c.loop-j in
    let e : l.j ≡ length a.sees.now = omega arith in
    (sym (ap (λ p. word_from l.word (map (at a.sig.now) p)) (drop_all l.j a.sees.now (omega arith))) ∙ l.invariant.1, subst (λ n. l.word < suc a.seed * 2 ^ n) e l.invariant.2)

pub returns : goal.returns
unfolding word_from
returns c =
    let a = c.args in
    let l = c.loop-j in
    let e : l.j ≡ length a.sees.now = omega (arith, seen_few a.seed (length a.sees.now) c.requires.narrow) in
    (sym (ap (λ p. word_from l.word (map (at a.sig.now) p)) (drop_all l.j a.sees.now (omega (arith, e)))) ∙ l.invariant.1, subst (λ n. l.word < suc a.seed * 2 ^ n) e l.invariant.2)

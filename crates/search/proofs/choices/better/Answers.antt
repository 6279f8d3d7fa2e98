-- `search::choices::better` meets its contract: the smaller list is kept.
use Rattle.std.proofs.Common.{◌≡◌, true, false, None, Some, arith, refl, sym, ◌∙◌, inl, inr}
use Rattle.theory.specs.Move.{Prefers}
use Rattle.search.proofs.choices.better.Goals as goal

pub returns-in-Some : goal.returns-in-Some
unfolding Prefers
returns-in-Some c = record {
  one = inr c.in-Some.is;
  over_list = λ p. absurd (let z : true ≡ false = sym (c.prefers.ensures.1 p) ∙ c.if-not-prefers.true in cc);
  over_best = λ x e p. let z : c.in-Some.best ≡ x = (let y : Some c.in-Some.best ≡ Some x = sym c.in-Some.is ∙ e in cc) in omega arith;
}

pub returns-in_default : goal.returns-in_default
unfolding Prefers
returns-in_default c = record {
  one = inl refl;
  over_list = λ p. omega arith;
  over_best = λ x e p. let z : c.in-Some.best ≡ x = (let y : Some c.in-Some.best ≡ Some x = sym c.in-Some.is ∙ e in cc) in omega (arith, c.prefers.ensures.0 c.if-not-prefers.false);
}

pub returns-in_default-2 : goal.returns-in_default-2
unfolding Prefers
returns-in_default-2 c = record { one = inl refl; over_list = λ p. omega arith; over_best = λ x e. absurd (let y : None ≡ Some x = sym c.in_default.is ∙ e in cc) }

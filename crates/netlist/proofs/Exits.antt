-- What leaves a function by a `?`: the refusal with which the call before it was refused.
--   left_by             so it is that result that the function's promise is about
--   left_for            the same of a `?` behind an `ok_or`: there was no value, and the refusal is the one that `ok_or` was given
use mathlib.Core.Path.{◌≡◌, ap, ◌∙◌}
use Rattle.std.specs.Prelude.{Option, None, Result, Err}
use Rattle.std.specs.Option.{ok_or}
use Rattle.std.specs.Result.{IsErr, IsErrAnd}
use Rattle.std.proofs.lemmas.Result.{err_from_is_err_and}
use Rattle.netlist.specs.declared.Refusal.{Refusal}

pub left_by : {A : Type 0} {r : Result A Refusal} {e : Refusal} → IsErr r × IsErrAnd r (λ y. y ≡ e) → r ≡ Err e
left_by {r = r} h = let p = err_from_is_err_and r h.1 in p.1 ∙ ap Err p.2

pub left_for : {A B : Type 0} {o : Option B} {r : Result A Refusal} {e f : Refusal} → IsErr r × IsErrAnd r (λ y. y ≡ e) → o ≡ None → ◌≡◌ {A = Result B Refusal} (Err e) (ok_or o f) → r ≡ Err f
left_for {B = B} {f = f} h n v = left_by h ∙ ap Err (same (rw n at v))
  where
    same : {e f : Refusal} → ◌≡◌ {A = Result B Refusal} (Err e) (Err f) → e ≡ f
    same q = cc

-- `lags::order::joined` meets its contract: what is put behind the first list leaves that as it is.
use Rattle.std.proofs.Common.{◌≡◌, ◌++◌, ◌+◌, ℕ, List, length, take, arith, ap, ◌∙◌, refl, length-append}
use Rattle.std.proofs.lemmas.List.{take_at}
use Rattle.std.proofs.lemmas.Slice.{take-put_mid}
use borrow.Rule.Slice.PartMut.{put_mid}
use Rattle.lags.proofs.order.joined.Goals as goal

behind : (xs ys past first second : List ℕ) (k : ℕ) → first ≡ xs → second ≡ ys
    → take (length xs + length ys) (put_mid (length xs) k (first ++ past) second) ≡ xs ++ ys
behind xs ys past first second k p q =
    rw (p, q) (take-put_mid (length xs) k (xs ++ past) ys _ refl (omega (arith, length-append xs past))
    ∙ ap (λ (zs : List ℕ). zs ++ ys) (take_at xs past (length xs) refl))

pub returns : goal.returns
returns c = behind c.args.first.now c.args.second.now _ _ _ _ c.copy_from_slice.ensures.after c.copy_from_slice-2.ensures.after

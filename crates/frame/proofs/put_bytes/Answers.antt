use Rattle.std.proofs.Common.{◌∷◌, [], ◌+◌, ◌*◌, get_or, arith, refl, ap, ◌∙◌}
use Rattle.std.proofs.lemmas.List.Edits.{sets}
use Rattle.frame.specs.Frame.{hex_of}
use Rattle.frame.proofs.Steps.{put_more}
use Rattle.frame.proofs.put_bytes.Goals as goal

pub loop-i-init : goal.loop-i-init
unfolding hex_of
loop-i-init c = refl

pub loop-i-preserved : goal.loop-i-preserved
loop-i-preserved c =
    let a = c.args in
    let i = c.loop-i.i in
    c.put_byte.ensures ∙ ap (λ l. sets l (a.at + 2 * i) (hex_of (get_or a.bytes.now i 0 ∷ []))) c.loop-i.invariant ∙ put_more a.bytes.now a.out.now a.at i (omega arith)

-- One lag more is put.
use Rattle.std.proofs.Common.{◌≡◌, [], ◌∷◌, ◌++◌, drop, length, arith, add-one, refl, ap, ◌∙◌}
use lib.ListN.{set}
use mathlib.Core.Path.{ap₂}
use mir.Syntax.{w32}
use mir.Facts.{to_z-of_z}
use Rattle.lags.proofs.Laws.{lag_fits}
use Rattle.netlist.specs.Write.{joined}
use Rattle.moves.specs.inner.Labels.{lags_of}
use Rattle.moves.proofs.Rows.{rows_more}
use Rattle.retime.proofs.put_lags.Goals as goal

pub loop-v-init : goal.loop-v-init
unfolding joined
loop-v-init c = refl

pub loop-v-preserved : goal.loop-v-preserved
loop-v-preserved c =
    let a = c.args in
    let i = c.loop-v.v in
    let v = to_z-of_z {w = w32} {z = c.lag_of.result} (rw c.lag_of.ensures (lag_fits _ (c.requires.1 i 0 (omega arith)))) ∙ c.lag_of.ensures in
    rw (add-one i) (ap₂ (λ l x. set l i x) c.loop-v.invariant v ∙ rows_more (lags_of a.lab.now) i a.lags.now (omega arith))

pub returns : goal.returns
returns c =
    let z : c.loop-v.v ≡ length c.args.lab.now = omega arith in
    c.loop-v.invariant ∙ ap (λ n. joined (λ u. lags_of c.args.lab.now u ∷ []) n ++ drop n c.args.lags.now) z

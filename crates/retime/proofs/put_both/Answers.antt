-- `retime::put_both` meets its contract: the lags put are those of the nodes, cut out of a longer column of labels.
use Rattle.std.proofs.Common.{[], ◌∷◌, ◌++◌, take, drop, sym, ap, ap₂, ◌∙◌, length-take-le}
use Rattle.std.proofs.lemmas.List.{get_or-take}
use Rattle.netlist.specs.Write.{joined}
use Rattle.netlist.proofs.Rows.{rows_length}
use Rattle.lags.specs.inner.Lags.{lag_of}
use Rattle.moves.specs.inner.Labels.{lags_of}
use Rattle.moves.proofs.Rows.{rows_same}
use Rattle.retime.proofs.put_both.Goals as goal

pub returns-clause-lags_after : goal.returns-clause-lags_after
returns-clause-lags_after c =
    let a = c.args in
    let n = a.net.nodes in
    let lab = a.lab.now in
    let rows = length-take-le n lab c.requires.nodes_in_bounds.0 in
    c.put_lags.ensures
    ∙ ap (λ k. joined (λ v. lags_of (take n lab) v ∷ []) k ++ drop k a.lags.now) rows
    ∙ ap₂ (λ l k. l ++ drop k a.lags.now) (rows_same (lags_of (take n lab)) (lags_of lab) n (λ v h. ap lag_of (get_or-take n lab v 0 h))) (sym (rows_length (lags_of lab) n))

-- `printing::retiming::put_lag_lines` meets its contract.
use Rattle.std.proofs.Common.{◌≡◌, [], ◌∷◌, ◌++◌, ◌+◌, ◌*◌, length, ap, ap₂, sym, ◌∙◌, arith, rules, get_or}
use Rattle.std.proofs.lemmas.List.Edits.{sets}
use lib.IntN.{pos}
use Rattle.frame.specs.Frame.{bytes_of, line_of, placed}
use Rattle.netlist.specs.Write.{joined}
use Rattle.netlist.proofs.Written.{length_joined, put_more}
use Rattle.printing.specs.Listed.{twos, lag_line}
use Rattle.printing.proofs.Lines.{handed, lag_length}
use Rattle.printing.proofs.retiming.put_lag_lines.Goals as goal

pub loop-v-init : goal.loop-v-init
unfolding joined
loop-v-init c = search rules

pub loop-v-preserved : goal.loop-v-preserved
loop-v-preserved c =
    let here = c.loop-v in
    let a = c.args in
    let f = lag_line a.lags.now in
    let long = length_joined f 11 (lag_length a.lags.now) in
    let same = handed (get_or a.lags.now here.v (pos 0)) (c.requires.by_index here.v (omega arith)) in
    c.put_line.ensures
    ∙ ap₂ (λ l bytes. placed l (a.at + 11 * here.v) (line_of bytes)) here.invariant (c.lag_bytes-line.ensures ∙ ap (λ z. (4 ∷ []) ++ bytes_of 2 here.v ++ bytes_of 2 (twos z)) same)
    ∙ ap (λ k. placed (sets a.out.now a.at (joined f here.v)) (a.at + k) (f here.v)) (sym (long here.v))
    ∙ put_more f a.out.now a.at here.v (omega (arith, c.requires.nodes_bound, long (here.v + 1), long (length a.lags.now)))

pub returns-clause-out_after : goal.returns-clause-out_after
returns-clause-out_after c =
    let e : c.loop-v.v ≡ length c.args.lags.now = omega arith in
    c.loop-v.invariant ∙ ap (λ n. sets c.args.out.now c.args.at (joined (lag_line c.args.lags.now) n)) e

pub returns-clause-value : goal.returns-clause-value
returns-clause-value c =
    let lags = c.args.lags.now in
    omega (arith, length_joined (lag_line lags) 11 (lag_length lags) (length lags))

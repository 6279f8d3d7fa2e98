-- `printing::retiming::list` meets its contract.
use Rattle.std.proofs.Common.{◌≡◌, rules, length, sym}
use lib.Seq.{length-take-le}
use Rattle.printing.proofs.Cases.{reads_too, lag_rows, lag_words, lists_done, lists_refused}
use Rattle.printing.proofs.retiming.list.Goals as goal

pub returns-in-Err : goal.returns-in-Err
returns-in-Err c = lists_refused c.args.text.now c.args.out.now _ _ c.requires c.in-Err.ensures.retimes _ _ c.put_refusal.ensures.out_after c.put_refusal.ensures.value

pub slice_bounds-lags-end : goal.slice_bounds-lags-end
slice_bounds-lags-end c =
    let long : length c.retime.new.lags ≡ 512 = search rules in
    rw c.from.ensures (lag_rows c.args.text.now c.args.out.now _ _ c.requires c.in_default.ensures.retimes _ c.in-Ok.ensures long).0

pub slice_bounds-put_lag_lines-end : goal.slice_bounds-put_lag_lines-end
slice_bounds-put_lag_lines-end c =
    let long : length c.retime.new.lags ≡ 512 = search rules in
    rw c.from.ensures (sym (length-take-le _ _ (lag_rows c.args.text.now c.args.out.now _ _ c.requires c.in_default.ensures.retimes _ c.in-Ok.ensures long).0))

pub put_lag_lines-requires-clause-nodes_bound : goal.put_lag_lines-requires-clause-nodes_bound
put_lag_lines-requires-clause-nodes_bound c =
    let long : length c.retime.new.lags ≡ 512 = search rules in
    let rows = lag_rows c.args.text.now c.args.out.now _ _ c.requires c.in_default.ensures.retimes _ c.in-Ok.ensures long in
    rw (c.from.ensures, c.written_len.ensures) (rows.1, rows.2)

pub put_lag_lines-requires-clause-by_index : goal.put_lag_lines-requires-clause-by_index
put_lag_lines-requires-clause-by_index c =
    let long : length c.retime.new.lags ≡ 512 = search rules in
    rw c.from.ensures (lag_words c.args.text.now c.args.out.now _ _ c.requires c.in_default.ensures.retimes _ c.in-Ok.ensures long)

pub returns-in-Ok : goal.returns-in-Ok
returns-in-Ok c =
    let long : length c.retime.new.lags ≡ 512 = search rules in
    let put = rw c.from.ensures at c.put_lag_lines.ensures in
    lists_done c.args.text.now c.args.out.now _ _ c.requires c.in_default.ensures.retimes _ c.in-Ok.ensures long _ _ _ c.written_len.ensures put.out_after put.value

pub returns-in-Err-read : goal.returns-in-Err-read
returns-in-Err-read c = absurd (reads_too c.args.text.now c.args.out.now _ _ c.requires c.in_default.ensures.retimes c.in-Err-read.ensures)

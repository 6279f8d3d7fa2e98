-- `simulate::running::run` meets its contract: the text is read, then 13, then 12, then one clock per vector.
use Rattle.std.proofs.Common.{sym, ◌∙◌, rules}
use Rattle.netlist.proofs.Exits.{left_by}
use Rattle.netlist.proofs.Run.{fit_rows}
use Rattle.simulate.proofs.Ran.{reads_steppable}
use Rattle.simulate.proofs.Answered.{runs_stop, run_divisors, run_asks, runs_asked, runs_short, run_runnable, runs_done}
use Rattle.simulate.proofs.running.run.Goals as goal

pub returns-in_err-net : goal.returns-in_err-net
returns-in_err-net c = let a = c.args in rw (left_by c.from_residual.ensures) (runs_stop a.text.now a.vectors.now a.out.now _ _ _ _ c.in_err-net.ensures)

pub invariant_of-circuit : goal.invariant_of-circuit
invariant_of-circuit c =
    let ok = reads_steppable c.in_ok-net.ensures in
    let few = fit_rows _ ok.fit in
    record { few_nodes = few.0; few_edges = few.1; kind_rows = search rules; steppable = ok }

pub run_fits-requires : goal.run_fits-requires
run_fits-requires c =
    let a = c.args in
    (run_divisors a.text.now a.vectors.now a.out.now _ c.in_ok-net.ensures _ _ c.count_kind-inputs.ensures c.count_kind-outputs.ensures).0

pub returns-then-not-run_fits : goal.returns-then-not-run_fits
returns-then-not-run_fits c =
    let a = c.args in
    runs_asked a.text.now a.vectors.now a.out.now _ c.in_ok-net.ensures _ _ c.count_kind-inputs.ensures c.count_kind-outputs.ensures
    (sym (run_asks a.text.now a.vectors.now a.out.now _ c.in_ok-net.ensures _ _ c.count_kind-inputs.ensures c.count_kind-outputs.ensures) ∙ sym c.run_fits.ensures ∙ c.if-not-run_fits.true)

pub nonzero_div-clocks : goal.nonzero_div-clocks
nonzero_div-clocks c = let a = c.args in (run_divisors a.text.now a.vectors.now a.out.now _ c.in_ok-net.ensures _ _ c.count_kind-inputs.ensures c.count_kind-outputs.ensures).0

pub nonzero_div-out : goal.nonzero_div-out
nonzero_div-out c = let a = c.args in (run_divisors a.text.now a.vectors.now a.out.now _ c.in_ok-net.ensures _ _ c.count_kind-inputs.ensures c.count_kind-outputs.ensures).1

pub returns-then-out-outputs : goal.returns-then-out-outputs
returns-then-out-outputs c =
    let a = c.args in
    runs_short a.text.now a.vectors.now a.out.now _ c.in_ok-net.ensures _ _ c.count_kind-inputs.ensures c.count_kind-outputs.ensures
    (sym (run_asks a.text.now a.vectors.now a.out.now _ c.in_ok-net.ensures _ _ c.count_kind-inputs.ensures c.count_kind-outputs.ensures) ∙ sym c.run_fits.ensures ∙ c.if-not-run_fits.false) c.if-out-outputs.true

pub clocks_of-requires : goal.clocks_of-requires
clocks_of-requires c =
    let a = c.args in
    run_runnable a.text.now a.vectors.now a.out.now _ c.in_ok-net.ensures _ _ c.count_kind-inputs.ensures c.count_kind-outputs.ensures
    (sym (run_asks a.text.now a.vectors.now a.out.now _ c.in_ok-net.ensures _ _ c.count_kind-inputs.ensures c.count_kind-outputs.ensures) ∙ sym c.run_fits.ensures ∙ c.if-not-run_fits.false) c.if-out-outputs.false

pub returns : goal.returns
returns c =
    let a = c.args in
    runs_done a.text.now a.vectors.now a.out.now _ c.in_ok-net.ensures _ _ c.count_kind-inputs.ensures c.count_kind-outputs.ensures
    (sym (run_asks a.text.now a.vectors.now a.out.now _ c.in_ok-net.ensures _ _ c.count_kind-inputs.ensures c.count_kind-outputs.ensures) ∙ sym c.run_fits.ensures ∙ c.if-not-run_fits.false) c.if-out-outputs.false _ _ c.clocks_of.ensures

-- `simulate::stepping::step` meets its contract: the rules of the record, then 13, then 12, then one clock.
use Rattle.std.proofs.Common.{arith, sym, ◌∙◌, rules}
use Rattle.netlist.proofs.Exits.{left_by}
use Rattle.netlist.proofs.Run.{fit_rows}
use Rattle.simulate.proofs.Ran.{reads_steppable}
use Rattle.simulate.proofs.Answered.{steps_stop, steps_asked, steps_short, step_runnable, steps_done}
use Rattle.simulate.proofs.stepping.step.Goals as goal

pub returns-in_err-same : goal.returns-in_err-same
returns-in_err-same c = let a = c.args in rw (left_by c.from_residual.ensures) (steps_stop a.net a.machine a.vector.now a.out.now _ _ _ _ c.in_err-same.ensures)

pub invariant_of-circuit : goal.invariant_of-circuit
invariant_of-circuit c =
    let ok = reads_steppable c.in_ok-same.ensures in
    let few = fit_rows _ ok.fit in
    record { few_nodes = few.0; few_edges = few.1; kind_rows = search rules; steppable = ok }

pub step_fits-requires : goal.step_fits-requires
step_fits-requires c = let few = fit_rows _ (reads_steppable c.in_ok-same.ensures).fit in omega arith

pub returns-then-not-step_fits : goal.returns-then-not-step_fits
returns-then-not-step_fits c =
    let a = c.args in
    steps_asked a.net a.machine a.vector.now a.out.now _ c.in_ok-same.ensures (sym c.step_fits.ensures ∙ c.if-not-step_fits.true)

pub returns-then-out-outputs : goal.returns-then-out-outputs
returns-then-out-outputs c =
    let a = c.args in
    steps_short a.net a.machine a.vector.now a.out.now _ c.in_ok-same.ensures
    (sym c.step_fits.ensures ∙ c.if-not-step_fits.false) _ c.count_kind-outputs.ensures c.if-out-outputs.true

pub clocks_of-words-requires : goal.clocks_of-words-requires
clocks_of-words-requires c =
    let a = c.args in
    step_runnable a.net a.machine a.vector.now a.out.now _ c.in_ok-same.ensures
    (sym c.step_fits.ensures ∙ c.if-not-step_fits.false) _ c.count_kind-outputs.ensures c.if-out-outputs.false

pub returns : goal.returns
returns c =
    let a = c.args in
    steps_done a.net a.machine a.vector.now a.out.now _ c.in_ok-same.ensures
    (sym c.step_fits.ensures ∙ c.if-not-step_fits.false) _ c.count_kind-outputs.ensures c.if-out-outputs.false _ _ c.clocks_of-words.ensures

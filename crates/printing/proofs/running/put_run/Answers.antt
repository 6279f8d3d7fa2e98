-- `printing::running::put_run` meets its contract: a run that is not refused has room for its outputs.
use Rattle.netlist.specs.Answer.{value, refusal}
use Rattle.printing.proofs.Runs.{prints_run}
use Rattle.printing.proofs.running.put_run.Goals as goal

pub returns-in-Ok-clause-prints_run : goal.returns-in-Ok-clause-prints_run
returns-in-Ok-clause-prints_run c =
    let a = c.args in
    prints_run a.text.now a.vectors.now a.ran.now _ a.out.now (value c.in-Ok.len) c.in-Ok.ensures _ _ c.put_bits.ensures.out_after c.put_bits.ensures.value

pub returns-in-Err-clause-prints_run : goal.returns-in-Err-clause-prints_run
returns-in-Err-clause-prints_run c =
    let a = c.args in
    prints_run a.text.now a.vectors.now a.ran.now _ a.out.now (refusal c.in-Err.reason) c.in-Err.ensures _ _ c.put_refusal.ensures.out_after c.put_refusal.ensures.value

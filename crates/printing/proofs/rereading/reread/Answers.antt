-- `printing::rereading::reread` meets its contract.
use Rattle.printing.proofs.Shown.{rereads_text, rereads_refusal}
use Rattle.printing.proofs.rereading.reread.Goals as goal

pub returns-in-Ok-clause-rereads : goal.returns-in-Ok-clause-rereads
returns-in-Ok-clause-rereads c = (rereads_text _ _ _ _ c.in-Ok.ensures).0

pub returns-in-Ok-clause-prefix_len : goal.returns-in-Ok-clause-prefix_len
returns-in-Ok-clause-prefix_len c = (rereads_text _ _ _ _ c.in-Ok.ensures).1

pub returns-in-Err-clause-rereads : goal.returns-in-Err-clause-rereads
returns-in-Err-clause-rereads c = rereads_refusal _ _ _ _ _ c.in-Err.ensures c.put_refusal.ensures.out_after c.put_refusal.ensures.value

-- `printing::quoting::put_quote` meets its contract: the line of the quote, or that of its refusal.
use Rattle.std.proofs.Common.{ap, ◌∙◌}
use Rattle.frame.specs.Frame.{line_of, placed}
use Rattle.netlist.specs.Answer.{value, refusal}
use Rattle.printing.specs.Shown.{line_in}
use Rattle.printing.proofs.Quoted.{prints_quote}
use Rattle.printing.proofs.quoting.put_quote.Goals as goal

pub returns-in-Ok-clause-prints_quote : goal.returns-in-Ok-clause-prints_quote
returns-in-Ok-clause-prints_quote c =
    let e = ap line_of c.quote_bytes.ensures in
    prints_quote _ _ _ _ (value c.in-Ok.quote.period) c.in-Ok.ensures (c.put_front.ensures.out_after ∙ ap (placed c.args.out.now 0) e)
    (c.put_front.ensures.value ∙ ap (λ l. line_in l c.args.out.now) e)

pub returns-in-Err-clause-prints_quote : goal.returns-in-Err-clause-prints_quote
returns-in-Err-clause-prints_quote c =
    prints_quote _ _ _ _ (refusal c.in-Err.reason) c.in-Err.ensures c.put_refusal.ensures.out_after c.put_refusal.ensures.value

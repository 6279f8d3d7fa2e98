-- `netlist::lines::read_lines` meets its contract: each stage goes on where the one before it ended, or its fault stands.
use Rattle.std.proofs.Common.{◌∙◌}
use Rattle.netlist.proofs.Stages.{ends_surplus}
use Rattle.netlist.proofs.lines.read_lines.Goals as goal

pub returns-then-edged-text : goal.returns-then-edged-text
returns-then-edged-text c =
    let f = c.in_ok-edged.edged in
    c.in_ok-headed.ensures ∙ c.in_ok-noded.ensures ∙ c.in_ok-edged.ensures ∙ ends_surplus _ f.at _ f.net c.if-edged-text.true

-- `netlist::finding::lowest` meets its contract. The loop's invariant: all numbers below v keep the rule.
use Rattle.std.proofs.Common.{ℕ, ◌<◌, true}
use Rattle.netlist.proofs.finding.lowest.Given as goal

abbrev pub invariant-loop-v : goal.invariant-loop-v
invariant-loop-v g l = (u : ℕ) → u < l.v → goal.F-post g l.keeps u true

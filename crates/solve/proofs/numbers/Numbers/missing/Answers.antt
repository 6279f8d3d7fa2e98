-- Each operand of the cell was passed.
use Rattle.std.proofs.Common.{◌≡◌, ◌-◌, ◌≤◌, length, arith, subst, ap}
use Rattle.graph.specs.Columns.{at}
use Rattle.solve.proofs.Spanning.{seen_all}
use Rattle.solve.proofs.numbers.Numbers.missing.Goals as goal

pub returns : goal.returns
returns g c =
    let s = c.args.self.now in
    seen_all s.program.first.now s.program.operand.now c.args.i (s.program.right.in_rows c.args.i c.requires)
    (λ x. 32 ≤ x → at s.span.now (x - 32) ≡ at s.span.now c.args.i → ¬ (at s.id (x - 32) ≡ 12288))
    (λ t h. subst (λ o. 32 ≤ at o t → at s.span.now (at o t - 32) ≡ at s.span.now c.args.i → ¬ (at s.id (at o t - 32) ≡ 12288)) c.operands-x-items.ensures
    (c.loop-x.invariant t (omega (arith, ap length c.operands-x-items.ensures))))

-- `gates::truth::counted` meets its contract: the bits below k are the gate's values.
use Rattle.std.proofs.Common.{◌≡◌, ◌+◌, arith, subst}
use Rattle.theory.specs.Gate.{gate_by}
use Rattle.rules.specs.Kinds.{kind_number}
use Rattle.theory.proofs.clocks.Gate.{by_bit}
use Rattle.gates.proofs.Spelt.{Spelt, spelt_more}
use Rattle.gates.proofs.Reckons.{works}
use Rattle.gates.proofs.truth.counted.Goals as goal

pub loop-k-preserved : goal.loop-k-preserved
loop-k-preserved c =
    let a = c.args in
    let l = c.loop-k in
    spelt_more (gate_by (kind_number a.kind) a.n) l.k l.word c.gate_by.result l.invariant c.gate_by.ensures (omega (arith, c.gate_by.ensures, by_bit (kind_number a.kind) a.n l.k)) (omega arith)

pub returns : goal.returns
returns c =
    let a = c.args in
    let l = c.loop-k in
    works (kind_number a.kind) a.n l.word (λ e. omega arith) (omega arith) (subst (λ k. Spelt (gate_by (kind_number a.kind) a.n) k l.word) (let z : l.k ≡ a.n + 1 = omega arith in z) l.invariant)

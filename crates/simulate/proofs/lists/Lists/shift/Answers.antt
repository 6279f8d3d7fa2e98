-- The word of one edge more is moved on.
use Rattle.std.proofs.Common.{◌≡◌, ℕ, List, ◌<◌, length, set, arith, refl, ap, ◌∙◌}
use Rattle.graph.specs.Columns.{at}
use Rattle.simulate.specs.Clock.{shifted}
use Rattle.simulate.specs.inner.Signals.{written, Movable, with_shifts}
use Rattle.simulate.proofs.Written.{written_more, written_other}
use Rattle.simulate.proofs.lists.Lists.shift.Goals as goal

-- No edge before it in the list is this one, so its word is still as it was.
untouched : (registers from count sig words now : List ℕ) (size i : ℕ) → Movable registers from count words size → i < length registers → now ≡ with_shifts registers i from count sig words
    → at now (at registers i) ≡ at words (at registers i)
untouched registers from count sig words now size i m h e =
    ap (λ xs. at xs (at registers i)) e
    ∙ written_other _ _ i words (at registers i) (λ j l q. let z : j ≡ i = m.apart j i (omega arith) h q in omega arith)

pub loop-e-init : goal.loop-e-init
unfolding written
loop-e-init c = refl

pub shift_in-requires : goal.shift_in-requires
shift_in-requires c =
    let a = c.args in
    let l = c.loop-e in
    let h : l.e-index < length a.self.now.registers = rw c.as_slice-e-items.ensures at c.loop-e-test.true in
    let m = c.requires.0.each l.e-index h in
    rw (c.from.ensures, c.from-in-loop-e.ensures, c.as_slice-e-items.ensures) (m.some, m.few, rw (untouched _ _ _ _ _ _ _ _ c.requires.0 h l.invariant) m.fits, c.requires.1 _)

pub loop-e-preserved : goal.loop-e-preserved
loop-e-preserved c =
    let a = c.args in
    let l = c.loop-e in
    let edge = at a.self.now.registers l.e-index in
    let h : l.e-index < length a.self.now.registers = rw c.as_slice-e-items.ensures at c.loop-e-test.true in
    rw c.as_slice-e-items.ensures
    (ap (set l.words edge) ((rw (c.from.ensures, c.from-in-loop-e.ensures, c.as_slice-e-items.ensures) at c.shift_in.ensures) ∙ ap (λ word. shifted (at a.circuit.net.now.count edge) word (at a.sig.now (at a.circuit.net.now.from edge))) (untouched _ _ _ _ _ _ _ _ c.requires.0 h l.invariant))
    ∙ written_more _ _ l.e-index _ l.invariant)

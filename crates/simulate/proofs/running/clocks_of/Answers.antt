-- The signals of a clock are bits throughout, and its parts together make one clock.
use Rattle.std.proofs.Common.{◌≡◌, ◌+◌, ◌*◌, ℕ, List, length, take, drop, arith, rules, refl, ap, ap₂, sym, subst, ◌∙◌, length-take, length-drop, add-one}
use native.Mathlib.Nat.{suc-mul, zero-mul}
use Rattle.graph.specs.Columns.{at}
use Rattle.gates.specs.inner.Gates.{AllBits}
use Rattle.gates.proofs.Row.{evaluated_bits}
use Rattle.netlist.specs.declared.Netlist.{Netlist}
use Rattle.simulate.specs.declared.lists.Lists.{Lists}
use Rattle.simulate.specs.Clock.{earlier, inputs, outputs}
use Rattle.simulate.specs.inner.Lists.{Touched}
use Rattle.simulate.specs.inner.Signals.{with_inputs, with_registers}
use Rattle.simulate.proofs.Evaluated.{Rows, plan_evaluable, plan_truths}
use Rattle.simulate.proofs.Signals.{entered, net_movable}
use Rattle.simulate.proofs.Written.{written_length}
use Rattle.simulate.proofs.Ran.{bits_none, running_start, turn_room, begun_bits, running_turn, running_end}
use Rattle.simulate.proofs.running.clocks_of.Goals as goal

-- How many pins are listed.
counted : {net : Netlist} {l : Lists} → Touched net l → (length l.inputs ≡ inputs net) × (length l.outputs ≡ outputs net)
unfolding earlier
counted t = (ap length t.inputs.items, ap length t.outputs.items)

-- A clock's vector ends where the next one begins.
next : (t i : ℕ) → (t + 1) * i ≡ t * i + i
next t i = ap (λ k. k * i) (add-one t) ∙ suc-mul t i

-- A clock's vector, by its place and its length.
vector_at : (vectors : List ℕ) {k p m n : ℕ} → p ≡ m → k ≡ n → take k (drop p vectors) ≡ take n (drop m vectors)
vector_at vectors e q = ap₂ (λ x y. take y (drop x vectors)) e q

pub loop-t-init : goal.loop-t-init
loop-t-init c =
    rw (zero-mul c.len-inputs.result, zero-mul c.len-outputs.result) (running_start _ c.args.circuit.steppable _ _ _ _ c.requires (search rules) _ refl bits_none)

pub slice_bounds-vector-end : goal.slice_bounds-vector-end
slice_bounds-vector-end c = omega (arith, (turn_room _ c.args.circuit.steppable _ _ _ _ c.requires c.loop-t-test.true c.loop-t.invariant).0, c.len-inputs.ensures, (counted c.lists_of-lists.ensures).0, next c.loop-t.t c.len-inputs.result)

-- The signals that a clock begins with, by its two steps.
entered_by : (l : Lists) (words sig : List ℕ) {one two v w : List ℕ} → one ≡ with_inputs l.inputs (length l.inputs) v sig → two ≡ with_registers l.registers (length l.registers) words one → v ≡ w
    → two ≡ entered l w words sig
entered_by l words sig p q r = q ∙ ap (with_registers l.registers (length l.registers) words) p ∙ ap (λ v. entered l v words sig) r

pub put_inputs-requires : goal.put_inputs-requires
put_inputs-requires c =
    let many = (counted c.lists_of-lists.ensures).0 in
    let room = (turn_room _ c.args.circuit.steppable _ _ _ _ c.requires c.loop-t-test.true c.loop-t.invariant).0 in (
      omega (arith, c.loop-t.invariant.sig_size),
      simp (length-take, length-drop) (omega (arith, room, many, c.len-inputs.ensures, next c.loop-t.t c.len-inputs.result)),
    )

pub show_registers-requires : goal.show_registers-requires
show_registers-requires c = (omega (arith, c.loop-t.invariant.words_size), omega (arith, c.loop-t.invariant.sig_size, ap length c.put_inputs.ensures ∙ written_length _ _ _ _))

pub evaluate-requires : goal.evaluate-requires
evaluate-requires c =
    let rows : Rows c.plan_of-plan.result = record { first = search rules; sees = search rules; truth = search rules } in
    plan_evaluable c.args.circuit.net.now c.plan_of-plan.result c.plan_of-plan.ensures c.args.circuit.steppable rows _ (omega (arith, c.loop-t.invariant.sig_size))
    (begun_bits _ c.args.circuit.steppable _ _ _ _ c.requires c.loop-t-test.true c.loop-t.invariant c.lists_of-lists.result _
    (entered_by c.lists_of-lists.result c.loop-t.words c.loop-t.sig c.put_inputs.ensures c.show_registers.ensures (vector_at c.args.vectors.now (omega arith) (omega (arith, c.len-inputs.ensures, (counted c.lists_of-lists.ensures).0, next c.loop-t.t c.len-inputs.result)))))

pub put_outputs-requires : goal.put_outputs-requires
put_outputs-requires c =
    (omega arith, omega (arith, (turn_room _ c.args.circuit.steppable _ _ _ _ c.requires c.loop-t-test.true c.loop-t.invariant).2, (counted c.lists_of-lists.ensures).1))

pub shift-requires : goal.shift-requires
shift-requires c =
    let net = c.args.circuit.net.now in
    let p = c.plan_of-plan.result in
    let inv = c.loop-t.invariant in
    let bits = begun_bits _ c.args.circuit.steppable _ _ _ _ c.requires c.loop-t-test.true c.loop-t.invariant c.lists_of-lists.result _
    (entered_by c.lists_of-lists.result c.loop-t.words c.loop-t.sig c.put_inputs.ensures c.show_registers.ensures (vector_at c.args.vectors.now (omega arith) (omega (arith, c.len-inputs.ensures, (counted c.lists_of-lists.ensures).0, next c.loop-t.t c.len-inputs.result)))) in
    let valued = c.evaluate.ensures net.kind (plan_truths net p c.plan_of-plan.ensures c.args.circuit.steppable) in (
      net_movable _ c.lists_of-lists.result c.lists_of-lists.ensures c.args.circuit.steppable c.loop-t.words _ inv.words_size (omega arith) inv.fits,
      subst AllBits (sym valued) (evaluated_bits net.kind p.node p.first p.sees 0 _ (length p.node) bits),
    )

pub loop-t-preserved : goal.loop-t-preserved
loop-t-preserved c =
    let net = c.args.circuit.net.now in
    let l = c.loop-t in
    let n = counted c.lists_of-lists.ensures in
    running_turn _ c.args.circuit.steppable _ _ _ _ c.requires c.loop-t-test.true l.invariant _ c.plan_of-plan.ensures _ c.lists_of-lists.ensures _ _
    (next l.t c.len-inputs.result ∙ ap (λ k. l.t * c.len-inputs.result + k) (c.len-inputs.ensures ∙ n.0)) (next l.t c.len-outputs.result ∙ ap (λ k. l.t * c.len-outputs.result + k) (c.len-outputs.ensures ∙ n.1)) _ record {
      sig_rows = l.invariant.sig_size;
      words_rows = l.invariant.words_size;
      begun = c.show_registers.new.sig;
      begins = entered_by c.lists_of-lists.result l.words l.sig c.put_inputs.ensures c.show_registers.ensures (vector_at c.args.vectors.now (omega arith) (omega (arith, c.len-inputs.ensures, n.0, next l.t c.len-inputs.result)));
      evaluates = c.evaluate.ensures net.kind (plan_truths net c.plan_of-plan.result c.plan_of-plan.ensures c.args.circuit.steppable);
      puts = c.put_outputs.ensures;
      moves = c.shift.ensures;
    }

pub returns : goal.returns
returns c = running_end _ c.args.circuit.steppable _ _ _ _ c.requires _ _ _ _ c.loop-t-test.false c.loop-t.invariant

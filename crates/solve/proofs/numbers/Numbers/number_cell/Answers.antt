-- A push lowers the top of the stack, which is an earlier cell then, and a pop gives a number.
use Rattle.std.proofs.Common.{rules, ℕ, List, [], ◌∷◌, length, length-append, ◌+◌, ◌-◌, ◌≤◌, ◌<◌, set, ap, sym, ◌∙◌, arith, get_or-set_same}
use lib.ListN.{get_or-append}
use Rattle.graph.specs.Columns.{at}
use Rattle.solve.specs.inner.Numbers.{Layers, Layered, Numbered, Waiting}
use Rattle.solve.proofs.Numbering.{numbered_room, numbered_ready, numbered_push}
use Rattle.solve.proofs.Levelling.{waiting_more, waiting_less}
use Rattle.solve.proofs.numbers.Numbers.number_cell.Goals as goal

-- The top of the stack is no later than cell i, by as much at least as there is below it.
top : {m h i : ℕ} {span id stack : List ℕ} → Waiting m h i span id stack → 0 < h → at stack (h - 1) + (h - 1) ≤ i
top {h = h} w some = omega (arith, w.falls 0 (h - 1) (omega arith) (omega arith), w.bottom)

-- There is a number left for it.
room : {L : Layers} {m n h i : ℕ} {id code stack : List ℕ} → Layered L → i < L.cells → Numbered L m n id code → Waiting m h i L.span id stack → 0 < h → n < L.cells
room {h = h} {stack = stack} v low s w some =
    numbered_room v.wired.few_cells s (at stack (h - 1)) (omega (arith, top w some)) (w.waits (h - 1) (omega arith))

pub offset_bounds-self-h : goal.offset_bounds-self-h
offset_bounds-self-h g c = omega (arith, top c.loop-h.invariant.waiting c.loop-h-test.true, c.args.self.now.program.right.few_cells)

pub bounds-self-h : goal.bounds-self-h
bounds-self-h g c = omega (arith, top c.loop-h.invariant.waiting c.loop-h-test.true, c.args.self.now.numbered.code_rows)

-- There is room on the stack, as what is missing is an earlier cell than its top.
pub loop-h-preserved-in-Some : goal.loop-h-preserved-in-Some
loop-h-preserved-in-Some g c =
    let s = c.loop-h.self in
    let f = c.loop-h.invariant.further in
    let w = c.loop-h.invariant.waiting in
    let m = c.in-Some.ensures in
    let low : c.args.i < length s.program.kind.now = omega (arith, ap (λ x. length x.kind.now) f.program) in
    let rows : c.loop-h.h < length s.stack = omega (arith, top w c.loop-h-test.true, m.below, s.numbered.code_rows) in
    record {
      further = record { program = f.program; span = f.span; more = f.more; kept = f.kept };
      level = c.loop-h.invariant.level;
      waiting = waiting_more w c.loop-h-test.true c.in-Some.source rows m.below (m.same_level ∙ w.level (c.loop-h.h - 1) (omega arith)) m.free;
      done = λ z. absurd (let y : ⊥ = omega arith in y);
    }

pub push-requires : goal.push-requires
push-requires g c =
    let s = c.loop-h.self in
    let low : c.args.i < length s.program.kind.now = omega (arith, ap (λ x. length x.kind.now) c.loop-h.invariant.further.program) in
    (search rules, omega (arith, room s.layered low s.numbered c.loop-h.invariant.waiting c.loop-h-test.true, s.numbered.id_rows))

pub invariant_of-self-in-None : goal.invariant_of-self-in-None
invariant_of-self-in-None g c =
    let s = c.loop-h.self in
    let f = c.loop-h.invariant.further in
    let w = c.loop-h.invariant.waiting in
    let few = s.program.right.few_cells in
    let t = at s.stack (c.loop-h.h - 1) in
    let low : t < length s.program.kind.now = omega (arith, top w c.loop-h-test.true, ap (λ x. length x.kind.now) f.program) in
    let own = w.level (c.loop-h.h - 1) (omega arith) in
    record {
      few = s.few;
      layered = s.layered;
      numbered = numbered_push few s.numbered s.layered.wired low own (w.waits (c.loop-h.h - 1) (omega arith)) (numbered_ready few s.numbered s.layered low own c.in-None.ensures) c.len.ensures c.push.ensures;
    }

pub loop-h-preserved : goal.loop-h-preserved
loop-h-preserved g c =
    let s = c.loop-h.self in
    let f = c.loop-h.invariant.further in
    let w = c.loop-h.invariant.waiting in
    let t = at s.stack (c.loop-h.h - 1) in
    let size = simp length-append at (ap length c.push.ensures) in
    record {
      further = record {
        program = f.program;
        span = f.span;
        more = omega (arith, f.more, size);
        kept = λ q h. ap (λ l. at l q) c.push.ensures ∙ get_or-append s.code (t ∷ []) 0 q (omega (arith, f.more)) ∙ f.kept q h;
      };
      level = c.loop-h.invariant.level;
      waiting = waiting_less w c.loop-h-test.true c.len.result;
      done = λ z. omega (arith, size, c.len.ensures, ap (at (set s.id t c.len.result)) (sym (ap (at s.stack) z ∙ w.bottom)) ∙ get_or-set_same s.id t c.len.result 0 (omega (arith, top w c.loop-h-test.true, ap (λ x. length x.kind.now) f.program, s.numbered.id_rows)));
    }

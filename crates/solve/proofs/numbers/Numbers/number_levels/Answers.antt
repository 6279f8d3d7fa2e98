-- After the last level all cells have numbers.
use Rattle.std.proofs.Common.{◌≡◌, ℕ, ◌+◌, ◌<◌, length, set, arith, refl, sym, ◌∙◌, subst}
use mathlib.Core.Path.{subst₂}
use Rattle.graph.specs.Columns.{at}
use Rattle.solve.specs.inner.Numbers.{Numbered, LevelsBegun, Ranked}
use Rattle.solve.specs.inner.Numbering.{numbered_layers}
use Rattle.solve.specs.inner.Parts.{Spans}
use Rattle.solve.proofs.Levelling.{begun_more, begun_here, ranked}
use Rattle.solve.proofs.numbers.Numbers.number_levels.Goals as goal

pub returns : goal.returns
returns g c =
    let s = c.loop-m.self in
    let i = c.loop-m.invariant in
    let k = c.args.self.now.program.bits in
    let last : c.loop-m.m ≡ k + 1 = omega arith in
    let spans : Spans k s.program.first.now s.program.operand.now s.span.now (length s.program.kind.now) =
    subst₂ (λ x y. Spans k x.first.now x.operand.now y.now (length x.kind.now)) (sym i.program) (sym i.span) c.requires.spans in
    let begun : LevelsBegun (k + 1) (length s.code) s.span.now s.code c.loop-m.levels = subst (λ m. LevelsBegun m (length s.code) s.span.now s.code c.loop-m.levels) last i.begun in
    let numbered : Numbered (numbered_layers s) (k + 1) (length s.code) s.id s.code = subst (λ m. Numbered (numbered_layers s) m (length s.code) s.id s.code) (i.level ∙ last) s.numbered in
    let rows : k + 1 < length c.loop-m.levels = omega (arith, i.rows, c.requires.none) in
    let low : (q : ℕ) → q < (length s.code) → at s.span.now (at s.code q) < k + 1 = λ q h. omega (arith, i.low q h) in
    rw c.len-2.ensures
    (subst (λ x. Ranked (length x.kind.now) k x.first.now x.operand.now s.id s.code (set c.loop-m.levels (k + 1) (length s.code))) i.program
    (ranked s.program.right.few_cells spans refl numbered (begun_more begun rows low) (begun_here begun rows low)))

-- `search::choices::best_list` meets its contract. All three loops keep the search's state; the inner two change the choice only where they leave for the outer
-- one. Each turn is a law of proofs/States.
use Rattle.std.proofs.Common.{List, ℕ, ◌+◌, ◌<◌, arith, Option}
use Rattle.graph.specs.Columns.{at}
use Rattle.search.specs.declared.choices.Extent.{Extent}
use Rattle.search.specs.inner.Program.{Program}
use Rattle.search.specs.inner.States.{EvaluatedTo, Plan}
use Rattle.search.proofs.Lists.{list_ready}
use Rattle.search.proofs.States.{Searching, searching_start, searching_on, searching_turn, searching_drop, searching_next, searching_found, searching_none}
use Rattle.search.proofs.choices.best_list.Goals as goal

module _ {k : ℕ} {e : Extent} {P : Program} {level row left : List ℕ} (g : Plan k e P level row left) where
  -- The due whose turn it is: there is one, by the end of a row of dues.
  room : (start d : ℕ) → start < e.dues → d < start + at left start → d < e.dues
  room start d h l = omega (arith, (g.in_rows.ends start (omega arith) (omega (arith, g.whole))).1, g.whole)

  -- More cells are evaluated.
  state : {fill : List (Option ℕ)} {best : Option ℕ} {c p d end q : ℕ} {sig after : List ℕ} → Searching k e P row fill best c p sig d
      → EvaluatedTo k P p end sig after q → Searching k e P row fill best c q after d
  state s v = searching_on g s (v.carried _ s.valued)

pub search-init : goal.search-init
search-init c = searching_start c.requires.planned _ c.requires.fresh

pub jump-turn-requires : goal.jump-turn-requires
jump-turn-requires c =
    let g = c.requires.planned in
    let i = c.loop-turn-2.invariant in
    let l = room g c.loop-turn.turn.due c.loop-turn-2.turn.due c.loop-turn-test.true c.loop-turn-2-test.true in
    let s = state g i.1 c.evaluate.ensures in (
      omega (arith, i.0, c.loop-turn.invariant.0, g.limit),
      g.program.few_bits,
      omega (arith, (g.level_of _ (g.cell c.loop-turn-2.turn.due l)).few),
      s.valued.bits,
      omega (arith, g.program.few_bits, s.valued.size),
    )

pub search-preserved-then-from-due : goal.search-preserved-then-from-due
search-preserved-then-from-due c =
    let g = c.requires.planned in
    let i = c.loop-turn-2.invariant in
    let l = room g c.loop-turn.turn.due c.loop-turn-2.turn.due c.loop-turn-test.true c.loop-turn-2-test.true in
    let s = state g i.1 c.evaluate.ensures in
    searching_drop g s l (omega (arith, c.evaluate.ensures.reached)) (rw c.from.ensures at c.if-from-due.true) (omega (arith, i.0, c.loop-turn.invariant.0, g.limit)) (rw c.from-then-from-due.ensures at c.jump-turn.ensures) c.jump-turn.auto.sig

pub loop-turn-2-preserved : goal.loop-turn-2-preserved
loop-turn-2-preserved c =
    let g = c.requires.planned in
    let i = c.loop-turn-2.invariant in
    let l = room g c.loop-turn.turn.due c.loop-turn-2.turn.due c.loop-turn-test.true c.loop-turn-2-test.true in
    let s = state g i.1 c.evaluate.ensures in
    (i.0, searching_turn g s l (omega (arith, c.evaluate.ensures.reached)) (rw c.from.ensures at c.if-from-due.false))

-- All register values agree.
pub list_of-list-requires-clause-by_index : goal.list_of-list-requires-clause-by_index
list_of-list-requires-clause-by_index c =
    let s = state c.requires.planned c.loop-turn.invariant.1 c.evaluate-in-search.ensures in
    list_ready c.requires.fillable s.valued c.evaluate-in-search.ensures.reached

pub returns-then-list-e : goal.returns-then-list-e
returns-then-list-e c =
    let g = c.requires.planned in
    let s = state g c.loop-turn.invariant.1 c.evaluate-in-search.ensures in
    searching_found g s c.requires.fillable c.loop-turn-test.false c.evaluate-in-search.ensures.reached c.list_of-list.ensures c.better.ensures (omega (arith, g.limit))

pub jump-turn-requires-in-search : goal.jump-turn-requires-in-search
jump-turn-requires-in-search c =
    let g = c.requires.planned in
    let s = state g c.loop-turn.invariant.1 c.evaluate-in-search.ensures in
    (omega (arith, c.loop-turn.invariant.0, g.limit), g.program.few_bits, omega arith, s.valued.bits, omega (arith, g.program.few_bits, s.valued.size))

pub search-preserved : goal.search-preserved
search-preserved c =
    let g = c.requires.planned in
    let s = state g c.loop-turn.invariant.1 c.evaluate-in-search.ensures in
    searching_next g s c.requires.fillable c.loop-turn-test.false c.evaluate-in-search.ensures.reached c.list_of-list.ensures c.better.ensures
    (omega (arith, c.loop-turn.invariant.0, g.limit)) c.jump-turn-in-search.ensures c.jump-turn-in-search.auto.sig

pub returns : goal.returns
returns c = let g = c.requires.planned in searching_none g c.search.invariant (omega (arith, g.limit))

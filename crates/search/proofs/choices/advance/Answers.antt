-- `search::choices::advance` meets its contract: from place x on the bits are 0, and below they are as they were.
use Rattle.std.proofs.Common.{◌≡◌, ◌+◌, ◌-◌, arith, inl, inr}
use Rattle.search.proofs.Next.{advancing_turn, advanced_one, advanced_none}
use Rattle.search.proofs.choices.advance.Goals as goal
use Rattle.search.proofs.choices.advance.Goals.{else-x-m-via-then-x-m+else-sig-x-ne1, else-x-m-via-else-x-m}

pub returns-then-sig-x-ne1 : goal.returns-then-sig-x-ne1
returns-then-sig-x-ne1 c =
    let l = c.loop-x in
    let e : l.x - 1 + 1 ≡ l.x = omega arith in
    rw e (advanced_one l.invariant c.requires.1 (omega arith) (λ h. c.if-sig-x-ne1.true) (omega arith))

pub loop-x-preserved : goal.loop-x-preserved
loop-x-preserved c =
    advancing_turn c.loop-x.invariant c.requires.1 c.loop-x-test.true
    (elim c.else-x-m.branch [ else-x-m-via-then-x-m+else-sig-x-ne1 w ↦ inr w.if-sig-x-ne1.false | else-x-m-via-else-x-m w ↦ inl (omega arith) ])

pub returns : goal.returns
returns c =
    let l = c.loop-x in
    let e : l.x ≡ 0 = omega arith in
    rw e at (advanced_none l.invariant c.requires.1 (omega arith) (λ h. omega arith) (λ h. omega arith))

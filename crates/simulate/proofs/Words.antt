-- A word that moves down a bit and takes a value at the top: over the count, whatever it is.
--   moved_some          what it becomes where the count is above 0
--   moved_low           below the top, each bit is the one that stood above it
--   moved_top           the top bit is the value
--   moved_fits          it has no bit at or above the count
use Prim.Native.Nat.{ℕ, zero, suc, ◌+◌, ◌-◌, ◌*◌, ◌^◌, ◌/◌, ◌%◌, ◌<◌, ◌≤◌}
use native.Mathlib.Omega.{arith}
use mathlib.Core.Path.{◌≡◌, refl, ap, ◌∙◌, subst}
use borrow.Author.Tests.{ne_eqb}
use lib.Pow.{shr_lt, shr-shr}
use Rattle.theory.proofs.numbers.Bits.{bit_below, bit_top, bit_fits}
use Rattle.graph.specs.Columns.{bit}
use Rattle.simulate.specs.Clock.{shifted}

pub moved_some : (w k word x : ℕ) → suc k ≡ w → shifted w word x ≡ word / 2 + x * 2 ^ k
moved_some w k word x e = rw (ne_eqb w 0 (omega arith)) (ap (λ n. word / 2 + x * 2 ^ n) (omega arith))

pub moved_low : (w word x k : ℕ) → suc k < w → bit (shifted w word x) k ≡ bit word (suc k)
moved_low w word x k h =
    let d = w - suc (suc k) in
    ap (λ n. bit n k) (moved_some w (suc d + k) word x (omega arith)) ∙ bit_below (word / 2) x d k ∙ ap (λ y. y % 2) (shr-shr word 1 k) ∙ ap (bit word) (omega arith)

module _ (word x w k : ℕ) (e : suc k ≡ w) (h : word < 2 ^ w) (l : x ≤ 1) where
  half_fits : word / 2 < 2 ^ k
  half_fits = shr_lt k 1 (subst (λ n. word < 2 ^ n) (omega arith) h)

  -- The word's own half stands below the top.
  pub moved_top : bit (shifted w word x) k ≡ x
  moved_top = ap (λ n. bit n k) (moved_some w k word x e) ∙ bit_top (word / 2) x k half_fits l

  half_above : shifted w word x < 2 ^ w
  half_above = omega (arith, bit_fits (word / 2) x k half_fits l, moved_some w k word x e, ap (λ n. 2 ^ n) e)

pub moved_fits : (word x w : ℕ) → word < 2 ^ w → x ≤ 1 → shifted w word x < 2 ^ w
moved_fits word x zero h l = h
moved_fits word x (suc w) h l = half_above word x (suc w) w refl h l

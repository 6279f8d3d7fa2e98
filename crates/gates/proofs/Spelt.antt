-- A word built bit by bit, from bit 0 up.
--   Spelt f k word      bit j of the word is f j below k, and it has no bits at or above k
--   spelt_more          one bit further
use Prim.Native.Nat.{ℕ, suc, ◌+◌, ◌-◌, ◌*◌, ◌^◌, ◌%◌, ◌<◌, ◌≤◌}
use native.Mathlib.Omega.{arith}
use native.Mathlib.Numerals.{add-one}
use native.Mathlib.Decide.{ℕ_discrete}
use mathlib.Core.Path.{◌≡◌, sym, subst, ap, ◌∙◌}
use lib.Pow.{shl_exact}
use Rattle.theory.proofs.numbers.Bits.{bit_below, bit_top, bit_fits}
use Rattle.graph.specs.Columns.{bit}

pub record Spelt (f : ℕ → ℕ) (k word : ℕ) : Type 0 where
  pub short : word < 2 ^ k
  pub spells : (j : ℕ) → j < k → bit word j ≡ f j

module _ (f : ℕ → ℕ) (k word x : ℕ) (s : Spelt f k word) (e : x ≡ f k) (l : x ≤ 1) where
  put_more : (j : ℕ) → j < suc k → bit (word + x * 2 ^ k) j ≡ f j
  put_more j h = go (ℕ_discrete j k)
    where
      go : Dec (j ≡ k) → bit (word + x * 2 ^ k) j ≡ f j
      go (yes q) = subst (λ i. bit (word + x * 2 ^ k) i ≡ f i) (sym q) (bit_top word x k s.short l ∙ e)
      go (no q) =
          let d = k - suc j in
          ap (λ i. bit (word + x * 2 ^ i) j) (let z : k ≡ suc d + j = omega arith in z) ∙ bit_below word x d j ∙ s.spells j (omega arith)

  -- A machine word has room for 32 bits: shifting a bit below the top loses nothing.
  pub spelt_more : k < 32 → Spelt f (k + 1) (word + x * 2 ^ k % 2 ^ 32)
  spelt_more h = rw (add-one k, shl_exact {a = x} 1 k 32 (omega arith) (omega arith)) (record { short = bit_fits word x k s.short l; spells = put_more })

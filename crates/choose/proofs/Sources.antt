-- Operands one by one.
--   source_chosen, source_cell    the two cases of `source_at`
--   operands_none, operands_more    one cell further
use Prim.Native.Nat.{ℕ, ◌+◌, ◌/◌, ◌%◌, ◌≤◌, ◌<◌}
use native.Mathlib.Omega.{arith}
use native.Mathlib.Decide.{ℕ_discrete}
use mathlib.Core.Path.{◌≡◌, sym, subst, ap, ◌∙◌}
use mathlib.Core.Bool.{cond}
use mathlib.Core.List.{List}
use lib.Dec.{ltb}
use lib.ListN.{length, set}
use borrow.Author.Tests.{lt-ltb, le-ltb}
use Rattle.theory.specs.Move.{sum}
use Rattle.graph.specs.Columns.{at}
use Rattle.graph.specs.inner.Lists.{Appended}
use Rattle.choose.specs.inner.Sources.{source_at, width_at, Operands}
use Rattle.theory.proofs.numbers.Sums.{sum_more, sum_grows}
use Rattle.moves.proofs.Labels.{base_none}
use Rattle.graph.proofs.Fills.{fill_more}
use Rattle.std.proofs.Common.{zero-add}

pub source_chosen : (t count a b : ℕ) → t < count → a ≡ cond (ltb t count) a b
source_chosen t count a b h = rw (lt-ltb t count h)

pub source_cell : (t count a b : ℕ) → count ≤ t → b ≡ cond (ltb t count) a b
source_cell t count a b h = rw (le-ltb t count h)

module _ (from ins begin counts base id code : List ℕ) where
  pub operands_none : (first operand : List ℕ) → at first 0 ≡ 0 → Operands from ins begin counts base id code 0 first operand
  operands_none first operand q = record { begins = base_none (width_at begin code) first q; shown = λ i h. absurd (let z : ⊥ = omega arith in z) }

  -- `sees` are the edges that enter the node of cell i.
  pub operands_more : (i : ℕ) (first operand operand' sees : List ℕ) (n m : ℕ) → Operands from ins begin counts base id code i first operand
      → n ≡ sum (width_at begin code) i → i + 1 < length first → length sees ≡ width_at begin code i
      → ((k : ℕ) → k < width_at begin code i → at sees k ≡ at ins (at begin (at code i / 32) + k)) → m ≡ n + length sees
      → Appended (λ k. source_at from counts base id (at code i % 32) (at sees k)) operand operand' 0 (length sees) n
      → (m ≡ sum (width_at begin code) (i + 1)) × Operands from ins begin counts base id code (i + 1) (set first (i + 1) m) operand'
  operands_more i first operand operand' sees n m s q h wide them e a = (
    next,
    record {
      begins = fill_more (sum (width_at begin code)) first (i + 1) m h next s.begins;
      shown = λ j k. go j k (ℕ_discrete j i);
    },
  )
    where
      next : m ≡ sum (width_at begin code) (i + 1)
      next = omega (arith, e, wide, sum_more (width_at begin code) i)

      go : (j : ℕ) → j < i + 1 → Dec (j ≡ i) → (k : ℕ) → k < width_at begin code j
          → at operand' (sum (width_at begin code) j + k) ≡ source_at from counts base id (at code j % 32) (at ins (at begin (at code j / 32) + k))
      go j k (yes z) = subst (λ j. (k : ℕ) → k < width_at begin code j
          → at operand' (sum (width_at begin code) j + k) ≡ source_at from counts base id (at code j % 32) (at ins (at begin (at code j / 32) + k))) (sym z)
          (λ k w. ap (λ x. at operand' (x + k)) (sym q) ∙ a.added k (omega (arith, wide)) ∙ ap (source_at from counts base id (at code i % 32)) (ap (at sees) (zero-add k) ∙ them k w))
      go j k (no z) = λ u w.
          a.kept (sum (width_at begin code) j + u) (let y : sum (width_at begin code) j + u < n = omega (arith, sum_more (width_at begin code) j, sum_grows (width_at begin code) (j + 1) i (omega arith)) in y)
          ∙ s.shown j (omega arith) u w

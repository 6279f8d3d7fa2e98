-- The figures of a quote, from the counts that were found.
--   counts_small        a new count is below 65,536
--   few_edges           there are at most 1,024 edges
--   total_part          the library's sum of the first n counts is the sum below n
--   total_small         it fits 32 bits, where none is above 65,535
--   largest_part        what none of the first n counts is above, and nothing less, is the largest below n
--   figures             the sum, the largest and the number are those of the least retiming
use Prim.Native.Nat.{ℕ, zero, suc, ◌+◌, ◌-◌, ◌*◌, ◌^◌, ◌<◌, ◌≤◌}
use native.Mathlib.Numerals.{add-one}
use native.Mathlib.Omega.{arith}
use mathlib.Core.Path.{◌≡◌, refl, ap, ◌∙◌}
use mathlib.Core.List.{List}
use lib.ListN.{length, take}
use lib.Seq.{get_or-take}
use Rattle.std.proofs.Common.{length-take-le}
use Rattle.std.specs.List.{sum as list_sum}
use Rattle.std.proofs.lemmas.List.Sums.{sum_by_more}
use Rattle.theory.specs.Move.{sum}
use Rattle.theory.proofs.numbers.Sums.{sum_same}
use Rattle.theory.proofs.least.Exists.{feasible_longer}
use Rattle.graph.specs.Columns.{at}
use Rattle.netlist.specs.declared.Netlist.{Netlist}
use Rattle.netlist.specs.Answer.{value}
use Rattle.netlist.specs.Order.{past}
use Rattle.netlist.proofs.Lowest.{count_low}
use Rattle.netlist.proofs.Run.{fit_rows}
use Rattle.lags.specs.inner.Lags.{Sure}
use Rattle.moves.specs.inner.Labels.{lags_of, Labelled, Counts, Bases}
use Rattle.moves.proofs.Labels.{to_node, new_fits, new_is}
use Rattle.quote.specs.Quote.{most}
use Rattle.quote.specs.inner.Quoted.{Tightest, QuotesNet}
use Rattle.quote.proofs.Most.{most_same, most_holds, most_within}

pub few_edges : (net : Netlist) → Sure net → net.edges ≤ 1024
few_edges net s = (fit_rows net s.fit).1

module _ (counts : List ℕ) where
  pub total_part : (n : ℕ) → n ≤ length counts → list_sum (take n counts) ≡ sum (at counts) n
  unfolding sum
  total_part zero h = refl
  total_part (suc n) h = rw (← add-one n) (sum_by_more (λ x. x) counts n 0 (omega arith)) ∙ ap (λ m. m + at counts n) (total_part n (omega arith))

  pub total_small : (n : ℕ) → n ≤ length counts → n ≤ 1024 → ((e : ℕ) → e < n → at counts e < 65536) → list_sum (take n counts) < 2 ^ 32
  unfolding sum
  total_small n h few small = omega (arith, total_part n h, bound n small)
    where
      bound : (n : ℕ) → ((e : ℕ) → e < n → at counts e < 65536) → sum (at counts) n ≤ 65536 * n
      bound zero w = omega arith
      bound (suc n) w = omega (arith, bound n (λ e l. w e (omega arith)), w n (omega arith))

  pub largest_part : (n r : ℕ) → n ≤ length counts → ((i : ℕ) → i < length (take n counts) → at (take n counts) i ≤ r)
      → ((b : ℕ) → ((i : ℕ) → i < length (take n counts) → at (take n counts) i ≤ b) → r ≤ b) → r ≡ most (at counts) n
  largest_part n r h above least =
      let rows = length-take-le n counts h in
      omega (
        arith,
        least (most (at counts) n) (λ i l. omega (arith, get_or-take n counts i 0 (omega arith), most_holds (at counts) n i (omega arith))),
        most_within (at counts) n r (λ i l. omega (arith, get_or-take n counts i 0 l, above i (omega arith))),
      )

module _ (net : Netlist) (lab counts : List ℕ) (counted : Counts net lab counts) where
  pub counts_small : Labelled net lab → (e : ℕ) → e < net.edges → at counts e < 65536
  counts_small s e h =
      let u = at lab (at net.from e) in
      let v = at lab (at net.to e) in
      let w = at net.count e in
      let fits = new_fits net lab s e h in
      let new = new_is net lab s e h (w + v - u) (omega arith) in
      omega (arith, counted e h, new, count_low net s.fit e h, s.small _ (to_node net lab s e h))

  pub figures : {p : ℕ} → Tightest net p lab → (base : List ℕ) → Bases net lab base → {a b : ℕ} → a ≡ sum (at counts) net.edges → b ≡ most (at counts) net.edges
      → QuotesNet net (value p) a b (at base net.edges)
  figures {p} t base based a b = record {
    lag = lags_of lab;
    answer = past (λ x (none, _). none (lags_of lab) (feasible_longer t.smallest.high t.least.feasible)) (p, (t.smallest, t.least), refl);
    total = a ∙ sum_same _ _ net.edges counted;
    widest = b ∙ most_same _ _ net.edges counted;
    chosen = based net.edges (omega arith);
  }

-- Start values as a word: over the count, whatever it is.
--   word_fits           a word of so many bits has no bit at or above them
--   word_bit            bit k of the word is start value k
--   put_short           how large a word of so many bits with one more is
--   words_short         the words of a choice have no bit past the chosen values
use Prim.Native.Nat.{ℕ, zero, suc, ◌+◌, ◌*◌, ◌^◌, ◌-◌, ◌<◌, ◌≤◌}
use native.Mathlib.Omega.{arith}
use native.Mathlib.Decide.{ℕ_discrete}
use native.Mathlib.Numerals.{add-one}
use mathlib.Core.Path.{◌≡◌, sym, subst, ap, ◌∙◌}
use mathlib.Core.List.{List}
use lib.IntN.{ℤ}
use lib.ListN.{length}
use Rattle.theory.specs.Gate.{gate}
use Rattle.theory.specs.Move.{sum}
use Rattle.theory.proofs.moves.Best.{choice_bit}
use Rattle.theory.proofs.numbers.Bits.{bit_below, bit_top, bit_fits}
use Rattle.graph.specs.Columns.{bit}
use Rattle.netlist.specs.declared.Netlist.{Netlist}
use Rattle.netlist.specs.Net.{graph_of, regs_of}
use Rattle.netlist.specs.inner.Words.{chosen_on_at}
use Rattle.moves.specs.Moved.{word_of}
use Rattle.moves.specs.inner.Chosen.{EdgeWords, ShortWords}

module _ (start : ℕ → ℕ) where
  pub word_fits : (n : ℕ) → ((k : ℕ) → k < n → start k ≤ 1) → word_of start n < 2 ^ n
  unfolding sum
  word_fits zero b = omega arith
  word_fits (suc n) b = bit_fits (word_of start n) (start n) n (word_fits n (λ k h. b k (omega arith))) (b n (omega arith))

  pub word_bit : (n k : ℕ) → k < n → ((k : ℕ) → k < n → start k ≤ 1) → bit (word_of start n) k ≡ start k
  unfolding sum
  word_bit zero k h b = absurd (omega arith)
  word_bit (suc n) k h b = go (ℕ_discrete k n) (λ l. word_bit n k l (λ i j. b i (omega arith)))
    where
      go : Dec (k ≡ n) → (k < n → bit (word_of start n) k ≡ start k) → bit (word_of start n + start n * 2 ^ n) k ≡ start k
      go (yes e) r = ap (bit (word_of start n + start n * 2 ^ n)) e ∙ bit_top (word_of start n) (start n) n (word_fits n (λ i j. b i (omega arith))) (b n (omega arith)) ∙ ap start (sym e)
      go (no e) r =
          let d = n - suc k in
          let p : n ≡ suc d + k = omega arith in
          ap (λ m. bit (word_of start n + start n * 2 ^ m) k) p ∙ bit_below (word_of start n) (start n) d k ∙ r (omega arith)

module _ (word t x : ℕ) (l : word < 2 ^ t) (b : x ≤ 1) where
  pub put_short : word + x * 2 ^ t < 2 ^ (t + 1)
  put_short = rw (add-one t) (bit_fits word x t l b)

pub words_short : (net : Netlist) (r : ℕ → ℤ) (c : ℕ) (words : List ℕ) → net.edges ≤ length words → EdgeWords net r c words → ShortWords net r words
words_short net r c words l w = record {
  rows = l;
  fits = λ e h. subst (λ x. x < 2 ^ chosen_on_at net r e) (sym (w e h)) (word_fits _ _ (λ t b. choice_bit gate (graph_of net) (regs_of net) r c e t));
}

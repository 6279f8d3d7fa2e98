-- A quote: the smallest period that is not refused 8, and what the least retiming at that period comes to. No start is sought and no text is written.
--   registers_at net r  "the register total", moved by r
--   most f n            the largest of f 0, …, f (n − 1), and 0 where there is none
--   largest_at net r    "the largest count on an edge", moved by r
--   Smallest net p      every period below p is refused 8
--   counted_if s n      a number of a quote that says s: 0 where it is a refusal
--   Quotes t s a b c    the quote of the text t says s, with the register total a, the largest count b and the number of values to choose c
--   QuoteOf t r         so the call's result says, r: its numbers, or a refusal
use Rattle.std.specs.Prelude.{◌≡◌, List, ℕ, zero, suc, ◌<◌, ◌≤◌, max, ℤ, Result, Ok, Err}
use Rattle.theory.specs.Lag.{new_count}
use Rattle.theory.specs.Move.{sum}
use Rattle.netlist.specs.declared.Netlist.{Netlist}
use Rattle.netlist.specs.declared.Refusal.{Refusal}
use Rattle.netlist.specs.Answer.{Said, value, refused, refusal, whole}
use Rattle.netlist.specs.Net.{graph_of, regs_of}
use Rattle.netlist.specs.Circuit.{NoneMeetsIn, LeastIn, chosen_in_at}
use Rattle.netlist.specs.Order.{◌or_else◌, Given, GivenAt, Stops}
use Rattle.netlist.specs.Read.{Reads}
use Rattle.quote.specs.declared.Quoted.{Quoted}

abbrev pub registers_at : Netlist → (ℕ → ℤ) → ℕ
registers_at net r = sum (new_count (graph_of net) (regs_of net).count r) net.edges

unfoldable pub most : (ℕ → ℕ) → ℕ → ℕ
most f zero = 0
most f (suc n) = max (most f n) (f n)

abbrev pub largest_at : Netlist → (ℕ → ℤ) → ℕ
largest_at net r = most (new_count (graph_of net) (regs_of net).count r) net.edges

-- "Every smaller period is refused 8". A period is 1 to 65,535.
pub record Smallest (net : Netlist) (p : ℕ) : Type 0 where
  pub low : 1 ≤ p
  pub high : p ≤ 65535
  pub smaller : (q : ℕ) → 1 ≤ q → q < p → NoneMeetsIn net q

abbrev pub counted_if : Said → ℕ → ℕ
counted_if (value p) n = n
counted_if (refused q k p) n = 0

pub record Quotes (t : List ℕ) (s : Said) (registers largest number : ℕ) : Type 0 where
  -- "The text must read; beyond that, the period in its own head plays no part."
  pub checked : Said
  pub net : Netlist
  pub reads : Reads t checked net
  -- The least lags at the period that is quoted.
  pub lag : ℕ → ℤ
  -- "where 65,535 would be refused 8 so is the quote"; else "the smallest period that isn't refused 8"
  pub answer : (Stops checked
      or_else Given (NoneMeetsIn net 65535) (whole 8)
      or_else GivenAt (λ p. Smallest net p × LeastIn net p lag) value) s
  -- "for the least retiming at that period the register total, the largest count on an edge and the number of values to choose"
  pub total : registers ≡ counted_if s (registers_at net lag)
  pub widest : largest ≡ counted_if s (largest_at net lag)
  pub chosen : number ≡ counted_if s (chosen_in_at net lag)

-- A refusal has no numbers.
abbrev pub QuoteOf : List ℕ → Result Quoted Refusal → Type 0
QuoteOf t (Ok q) = Quotes t (value q.period) q.registers q.largest q.number
QuoteOf t (Err r) = Quotes t (refusal r) 0 0 0

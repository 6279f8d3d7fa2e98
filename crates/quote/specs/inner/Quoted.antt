-- What the stages of a quote promise each other.
--   Tightest net p lab  p is the smallest period that is met, and these are the labels of the least retiming there
--   Tightens            what the search for it promises: that, or no period is met
--   FromEight net r     what is left of the row once the text has read: 8, or the period
--   QuotesNet, QuoteOfNet     the quote of a netlist that was read, and so the result says
use Rattle.std.specs.Prelude.{◌≡◌, List, ℕ, ℤ, Option, Some, None, Result, Ok, Err}
use Rattle.netlist.specs.declared.Netlist.{Netlist}
use Rattle.netlist.specs.declared.Refusal.{Refusal}
use Rattle.netlist.specs.Answer.{Said, value, refusal, whole}
use Rattle.netlist.specs.Circuit.{NoneMeetsIn, LeastIn, chosen_in_at}
use Rattle.netlist.specs.Order.{◌or_else◌, Given, GivenAt}
use Rattle.moves.specs.inner.Labels.{lags_of, Labelled}
use Rattle.quote.specs.declared.Quoted.{Quoted}
use Rattle.quote.specs.declared.halving.Tight.{Tight}
use Rattle.quote.specs.Quote.{registers_at, largest_at, Smallest, counted_if}

pub record Tightest (net : Netlist) (p : ℕ) (lab : List ℕ) : Type 0 where
  pub smallest : Smallest net p
  pub least : LeastIn net p (lags_of lab)
  pub labelled : Labelled net lab

abbrev pub Tightens : Netlist → Option Tight → Type 0
Tightens net (Some t) = Tightest net t.period t.lab
Tightens net None = NoneMeetsIn net 65535

abbrev pub FromEight : Netlist → (ℕ → ℤ) → Said → Type 0
FromEight net r = Given (NoneMeetsIn net 65535) (whole 8) or_else GivenAt (λ p. Smallest net p × LeastIn net p r) value

pub record QuotesNet (net : Netlist) (s : Said) (registers largest number : ℕ) : Type 0 where
  pub lag : ℕ → ℤ
  pub answer : FromEight net lag s
  pub total : registers ≡ counted_if s (registers_at net lag)
  pub widest : largest ≡ counted_if s (largest_at net lag)
  pub chosen : number ≡ counted_if s (chosen_in_at net lag)

abbrev pub QuoteOfNet : Netlist → Result Quoted Refusal → Type 0
QuoteOfNet net (Ok q) = QuotesNet net (value q.period) q.registers q.largest q.number
QuoteOfNet net (Err r) = QuotesNet net (refusal r) 0 0 0

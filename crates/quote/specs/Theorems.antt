-- What is to be proved of quotes, beside the call. Each is a type; proofs/theorems has a term of it.
--   SomeQuote, OneQuote     every text has a quote, and one only
--   LongerForbidsLess       what meets a period meets every longer one
--   PeriodReads             its text reads
--   PeriodPlaysNoPart       netlists that differ only in the head's period have one quote
--   RetimedAt net p r out'  the text with p in its head, retimed into enough room, says r and leaves out'
--   EightFact               a quote is refused 8 exactly where retiming at 65,535 is
--   AtTheQuote, QuotedPeriod    what retiming says at the quoted period; and at every other
--   QuoteIsRetiming         the period and the numbers are those of retiming at that period
use Rattle.std.specs.Prelude.{◌≡◌, ◌↔◌, List, ℕ, ◌<◌, ◌≤◌, ℤ, length, take}
use Rattle.theory.specs.Move.{sum}
use Rattle.graph.specs.Columns.{at}
use Rattle.netlist.specs.declared.Netlist.{Netlist}
use Rattle.netlist.specs.Answer.{Said, value, whole, at_edge}
use Rattle.netlist.specs.Net.{at_period, plain}
use Rattle.netlist.specs.Circuit.{NoneMeetsIn}
use Rattle.netlist.specs.Read.{Reads}
use Rattle.netlist.specs.Write.{text_of}
use Rattle.retime.specs.Retime.{Room, Retimes}
use Rattle.quote.specs.Quote.{most, Quotes}

abbrev pub SomeQuote : Type 0
SomeQuote = (t : List ℕ) → (s : Said) × (a : ℕ) × (b : ℕ) × (c : ℕ) × Quotes t s a b c

abbrev pub OneQuote : Type 0
OneQuote = (t : List ℕ) (s s' : Said) (a b c a' b' c' : ℕ) → Quotes t s a b c → Quotes t s' a' b' c' → (s ≡ s') × (a ≡ a') × (b ≡ b') × (c ≡ c')

abbrev pub LongerForbidsLess : Type 0
LongerForbidsLess = (net : Netlist) (p q : ℕ) → p ≤ q → NoneMeetsIn net q → NoneMeetsIn net p

-- ── Another period in the head ──────────────────────────────────────────────────────────────

abbrev pub PeriodReads : Type 0
PeriodReads = (t : List ℕ) (net : Netlist) (p : ℕ) → Reads t (value 0) net → 1 ≤ p → p ≤ 65535 → Reads (text_of (at_period net p)) (value 0) (at_period net p)

-- "the period in its own head plays no part"
abbrev pub PeriodPlaysNoPart : Type 0
PeriodPlaysNoPart = (t t' : List ℕ) (net : Netlist) (p : ℕ) (s : Said) (a b c : ℕ) → Reads t (value 0) net → Reads t' (value 0) (at_period net p) → Quotes t s a b c → Quotes t' s a b c

-- ── Retiming at the quoted period ───────────────────────────────────────────────────────────

-- The text with p in its head, retimed into enough room, says r and leaves out'. (It reads where p is a period, and every call has an outcome: `PeriodReads`, retime's `SomeOutcome`.)
pub record RetimedAt (net : Netlist) (p : ℕ) (r : Said) (out' : List ℕ) : Type 0 where
  pub out : List ℕ
  pub lags : List ℤ
  pub lags' : List ℤ
  pub room : Room out lags (at_period net p)
  pub retimes : Retimes (text_of (at_period net p)) out lags r out' lags'

-- "where 65,535 would be refused 8 so is the quote"
abbrev pub EightFact : Type 0
EightFact = (t : List ℕ) (net : Netlist) (s r : Said) (a b c : ℕ) (out' : List ℕ) → Reads t (value 0) net → Quotes t s a b c → RetimedAt net 65535 r out' → (s ≡ whole 8) ↔ (r ≡ whole 8)

-- "The numbers equal what a retiming at that period has or would have had." Where one of them is above its limit it is refused 9 or 10; what comes back has them.
pub record AtTheQuote (net : Netlist) (p registers largest number : ℕ) (r : Said) (out' : List ℕ) : Type 0 where
  pub nine : (32 < largest) ↔ ((e : ℕ) × (r ≡ at_edge 9 e))
  pub ten : largest ≤ 32 → (24 < number) ↔ (r ≡ whole 10)
  pub chosen : (k : ℕ) → r ≡ value k → k ≡ number
  pub counts : (k : ℕ) → r ≡ value k → (new : Netlist) × Reads (take (length (text_of (plain (at_period net p)))) out') (value 0) new
      × (registers ≡ sum (at new.count) new.edges) × (largest ≡ most (at new.count) new.edges)

pub record QuotedPeriod (net : Netlist) (p registers largest number : ℕ) : Type 0 where
  pub smaller : (q : ℕ) (r : Said) (out' : List ℕ) → 1 ≤ q → q < p → RetimedAt net q r out' → r ≡ whole 8
  pub longer : (q : ℕ) (r : Said) (out' : List ℕ) → p ≤ q → q ≤ 65535 → RetimedAt net q r out' → ¬ (r ≡ whole 8)
  pub its_numbers : (r : Said) (out' : List ℕ) → RetimedAt net p r out' → AtTheQuote net p registers largest number r out'

abbrev pub QuoteIsRetiming : Type 0
QuoteIsRetiming = (t : List ℕ) (net : Netlist) (p a b c : ℕ) → Reads t (value 0) net → Quotes t (value p) a b c → QuotedPeriod net p a b c

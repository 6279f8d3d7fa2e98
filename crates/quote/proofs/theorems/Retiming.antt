-- Retiming at the quoted period, at shorter and at longer ones.
--   numbers             what retiming says at the quoted period
--   eight_fact, quote_is_retiming
use Prim.Native.Nat.{ℕ}
use native.Mathlib.Omega.{arith}
use mathlib.Core.Path.{refl, subst}
use mathlib.Core.List.{List}
use Rattle.netlist.specs.declared.Netlist.{Netlist}
use Rattle.netlist.specs.Answer.{Said, value}
use Rattle.netlist.specs.Read.{Reads}
use Rattle.netlist.proofs.Order.{given_one, decides}
use Rattle.quote.specs.Theorems.{RetimedAt, EightFact, AtTheQuote, QuoteIsRetiming}
use Rattle.quote.specs.inner.Quoted.{FromEight, QuotesNet}
use Rattle.quote.proofs.Call.{net_of, told_period, told_eight}
use Rattle.quote.proofs.Retimed.{eight_at, nine_at, ten_at, chosen_at, counts_at}
use Rattle.quote.proofs.theorems.Period.{longer_forbids_less, period_reads}

-- Both are refused 8 exactly where no legal retiming meets 65,535.
pub eight_fact : EightFact
eight_fact t net s r a b c out' h o x =
    let q = net_of net h o in
    let (to, from) = eight_at net 65535 (period_reads t net 65535 h (omega arith) (omega arith)) x in
    (λ z. from (told_eight (subst (FromEight net q.lag) z q.answer)), λ z. decides (given_one _ _) (to z, refl) q.answer)

-- The quote's numbers are those of the least lags at its period, and retiming at that period goes by the least lags.
numbers : (t : List ℕ) (net : Netlist) (p a b c : ℕ) → Reads t (value 0) net → QuotesNet net (value p) a b c
    → (r : Said) (out' : List ℕ) → RetimedAt net p r out' → AtTheQuote net p a b c r out'
numbers t net p a b c h q r out' x =
    let (f, l) = told_period q.answer in
    let reads = period_reads t net p h f.low f.high in
    record {
      nine = rw q.widest (nine_at net p reads x q.lag l);
      ten = rw (q.widest, q.chosen) (ten_at net p reads x q.lag l);
      chosen = rw q.chosen (chosen_at net p reads x q.lag l);
      counts = rw (q.total, q.widest) (counts_at net p reads x q.lag l);
    }

-- No shorter period is met, and what meets this one meets every longer one.
pub quote_is_retiming : QuoteIsRetiming
quote_is_retiming t net p a b c h o =
    let q = net_of net h o in
    let (f, l) = told_period q.answer in
    record {
      smaller = λ i r out' low less x. (eight_at net i (period_reads t net i h low (omega (arith, f.high))) x).1 (f.smaller i low less);
      longer = λ i r out' more high x z.
          longer_forbids_less net p i more ((eight_at net i (period_reads t net i h (omega (arith, f.low)) high) x).0 z) q.lag l.feasible;
      its_numbers = numbers t net p a b c h q;
    }

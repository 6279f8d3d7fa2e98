-- A quote and its row.
--   counted                a number depends on what is said
--   unread, unread_said    the quote of a text that is refused: there is one, and it says that refusal and zeros
--   of_net, net_of         of a text that reads: the quote of its netlist
--   of_result              so of the call's result
--   told_period, told_eight    what is said has its fact
--   none                   the quote where 65,535 is refused
use Prim.Native.Nat.{ℕ}
use mathlib.Core.Path.{◌≡◌, refl, ap, ◌∙◌, subst}
use mathlib.Core.List.{List}
use lib.IntN.{ℤ, pos}
use Rattle.std.proofs.Common.{Result, Ok, Err}
use Rattle.netlist.specs.declared.Netlist.{Netlist}
use Rattle.netlist.specs.declared.Refusal.{Refusal}
use Rattle.netlist.specs.Answer.{Said, value, refused, whole}
use Rattle.netlist.specs.Circuit.{LeastIn, NoneMeetsIn}
use Rattle.netlist.specs.Order.{here, past}
use Rattle.netlist.specs.Read.{Reads}
use Rattle.netlist.proofs.Fits.{clash}
use Rattle.netlist.proofs.Order.{later, no_stop, stopped}
use Rattle.netlist.proofs.theorems.One.{one_reading}
use Rattle.quote.specs.declared.Quoted.{Quoted}
use Rattle.quote.specs.Quote.{Smallest, counted_if, Quotes, QuoteOf}
use Rattle.quote.specs.inner.Quoted.{FromEight, QuotesNet, QuoteOfNet}

pub counted : {s x : Said} (n : ℕ) → s ≡ x → counted_if s n ≡ counted_if x n
counted n e = ap (λ x. counted_if x n) e

module _ {t : List ℕ} {q k p : ℕ} {net : Netlist} (h : Reads t (refused q k p) net) where
  pub unread : Quotes t (refused q k p) 0 0 0
  unread = record { checked = refused q k p; net = net; reads = h; lag = λ v. pos 0; answer = here refl; total = refl; widest = refl; chosen = refl }

  pub unread_said : {s : Said} {a b c : ℕ} → Quotes t s a b c → (s ≡ refused q k p) × (a ≡ 0) × (b ≡ 0) × (c ≡ 0)
  unread_said o =
      let e = stopped (one_reading t o.checked (refused q k p) o.net net o.reads h).0 o.answer in
      (e, o.total ∙ counted _ e, o.widest ∙ counted _ e, o.chosen ∙ counted _ e)

module _ {t : List ℕ} {s : Said} {a b c : ℕ} (net : Netlist) (h : Reads t (value 0) net) where
  pub of_net : QuotesNet net s a b c → Quotes t s a b c
  of_net x =
      record { checked = value 0; net = net; reads = h; lag = x.lag; answer = past (no_stop 0 refl) x.answer; total = x.total; widest = x.widest; chosen = x.chosen }

  pub net_of : Quotes t s a b c → QuotesNet net s a b c
  net_of o =
      let e = one_reading t o.checked (value 0) o.net net o.reads h in
      subst (λ n. QuotesNet n s a b c) e.1
      (record { lag = o.lag; answer = later s (no_stop 0 e.0) o.answer; total = o.total; widest = o.widest; chosen = o.chosen })

pub of_result : {t : List ℕ} (net : Netlist) → Reads t (value 0) net → (r : Result Quoted Refusal) → QuoteOfNet net r → QuoteOf t r
of_result net h (Ok q) x = of_net net h x
of_result net h (Err e) x = of_net net h x

module _ {net : Netlist} {r : ℕ → ℤ} where
  pub told_period : {p : ℕ} → FromEight net r (value p) → Smallest net p × LeastIn net p r
  told_period (here (_, e)) = clash (cc)
  told_period {p} (past _ (q, f, e)) = let z : q ≡ p = cc in subst (λ m. Smallest net m × LeastIn net m r) z f

  pub told_eight : FromEight net r (whole 8) → NoneMeetsIn net 65535
  told_eight (here (n, _)) = n
  told_eight (past _ (q, f, e)) = clash (cc)

pub none : {net : Netlist} → NoneMeetsIn net 65535 → QuotesNet net (whole 8) 0 0 0
none n = record { lag = λ v. pos 0; answer = here (n, refl); total = refl; widest = refl; chosen = refl }

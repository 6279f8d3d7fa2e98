-- Every text has a quote, and one only.
--   one_figures         the numbers are one
--   one_net, one_quote  so is the quote of a netlist, and of a text
--   some_quote
use Prim.Native.Nat.{ℕ}
use mathlib.Core.Path.{◌≡◌, refl, sym, ap, ◌∙◌, subst}
use mathlib.Core.Logic.{⊎_elim}
use mathlib.Core.List.{List}
use lib.IntN.{ℤ}
use Rattle.theory.specs.Gate.{gate}
use Rattle.theory.proofs.numbers.Sums.{sum_same}
use Rattle.theory.proofs.least.Exists.{least_unique}
use Rattle.netlist.specs.declared.Netlist.{Netlist}
use Rattle.netlist.specs.Answer.{Said, value, refused}
use Rattle.netlist.specs.Net.{graph_of, regs_of}
use Rattle.netlist.specs.Circuit.{LeastIn, NoneMeetsIn, SoundIn, chosen_in_at}
use Rattle.netlist.specs.Order.{past}
use Rattle.netlist.specs.Read.{Reads}
use Rattle.netlist.proofs.Order.{given_one, meet}
use Rattle.netlist.proofs.theorems.Sound.{read_is_sound}
use Rattle.moves.proofs.Lags.{count_alike, chosen_alike}
use Rattle.retime.proofs.Call.{reading}
use Rattle.quote.specs.Quote.{registers_at, largest_at, Smallest, counted_if, Quotes}
use Rattle.quote.specs.Theorems.{SomeQuote, OneQuote}
use Rattle.quote.specs.inner.Quoted.{FromEight, QuotesNet}
use Rattle.quote.proofs.Most.{most_same}
use Rattle.quote.proofs.Periods.{met?, smallest_one, smallest_some}
use Rattle.quote.proofs.Call.{counted, unread, unread_said, of_net, net_of, told_period, none}

-- ── One only ────────────────────────────────────────────────────────────────────────────────

module _ (net : Netlist) (ok : SoundIn net) (r q : ℕ → ℤ) where
  -- Where both say one period, the least lags there are one at each node, and the numbers look at no other lags.
  one_figures : (s : Said) → FromEight net r s → FromEight net q s
      → (counted_if s (registers_at net r) ≡ counted_if s (registers_at net q)) × (counted_if s (largest_at net r) ≡ counted_if s (largest_at net q))
      × (counted_if s (chosen_in_at net r) ≡ counted_if s (chosen_in_at net q))
  one_figures (refused _ _ _) a b = (refl, refl, refl)
  one_figures (value p) a b =
      let same = least_unique r q (told_period a).1 (told_period b).1 in
      let counts = count_alike gate (graph_of net) ok.wired (regs_of net) r q same in
      (sum_same _ _ net.edges counts, most_same _ _ net.edges counts, chosen_alike gate (graph_of net) ok.wired (regs_of net) r q same)

one_net : (net : Netlist) → SoundIn net → {s s' : Said} {a b c a' b' c' : ℕ} → QuotesNet net s a b c → QuotesNet net s' a' b' c' → (s ≡ s') × (a ≡ a') × (b ≡ b') × (c ≡ c')
one_net net ok {s} x y =
    let e = meet (given_one _ _) (λ (p, (f, l), u) (q, (g, m), v). u ∙ ap value (smallest_one net p q _ _ f l g m) ∙ sym v) x.answer y.answer in
    let n = one_figures net ok x.lag y.lag s x.answer (subst (FromEight net y.lag) (sym e) y.answer) in (
      e,
      x.total ∙ n.0 ∙ counted _ e ∙ sym y.total,
      x.widest ∙ n.1 ∙ counted _ e ∙ sym y.widest,
      x.chosen ∙ n.2 ∙ counted _ e ∙ sym y.chosen,
    )

-- A text that does not read has one refusal, and zeros. Else it has one netlist.
pub one_quote : OneQuote
one_quote t s s' a b c a' b' c' x y =
    ⊎_elim
    (λ (q, k, p, net, h).
    let u = unread_said h x in
    let v = unread_said h y in
    (u.0 ∙ sym v.0, u.1 ∙ sym v.1, u.2 ∙ sym v.2, u.3 ∙ sym v.3))
    (λ (net, h). one_net net (read_is_sound t net h) (net_of net h x) (net_of net h y))
    (reading t)

-- ── Some ────────────────────────────────────────────────────────────────────────────────────

module _ (t : List ℕ) where
  abbrev Some : Type 0
  Some = (s : Said) × (a : ℕ) × (b : ℕ) × (c : ℕ) × Quotes t s a b c

  module _ (net : Netlist) (h : Reads t (value 0) net) where
    found : (p : ℕ) → Smallest net p → (r : ℕ → ℤ) → LeastIn net p r → ¬ NoneMeetsIn net 65535 → Some
    found p f r l n = (
      value p,
      registers_at net r,
      largest_at net r,
      chosen_in_at net r,
      of_net net h (record { lag = r; answer = past (λ x (m, _). n m) (p, (f, l), refl); total = refl; widest = refl; chosen = refl }),
    )

    reads_some : Some
    reads_some =
        let ok = read_is_sound t net h in
        ⊎_elim
        (λ (o, m). let (p, f, a) = smallest_some net ok (o, m) in found p f a.0 a.1 (λ n. n o m.feasible))
        (λ n. (_, _, _, _, of_net net h (none n)))
        (met? net ok 65535)

-- The text is read (`reading`). What reads is sound, so whether a period is met can be told (`met?`); where 65,535 is, some period is the smallest.
pub some_quote : SomeQuote
some_quote t = ⊎_elim (λ (q, k, p, net, h). (_, _, _, _, unread h)) (λ (net, h). reads_some t net h) (reading t)

-- The theorems of specs/Theorems.
--   some_print, one_print
--   page?, pages_hold   each card is one test that antt computes, beside its row of retime's table
use Prim.Native.Nat.{ℕ}
use Prim.Native.String.{String}
use native.Mathlib.Omega.{arith}
use mathlib.Core.Path.{◌≡◌, refl, sym, ap, ap₂, ◌∙◌, subst}
use mathlib.Core.Bool.{Bool, true, false}
use mathlib.Core.List.{List, ◌++◌}
use lib.Dec.{T}
use lib.IntN.{ℤ, pos}
use lib.ListN.{length, get_or, take, drop, replicate, get_or-map}
use Rattle.theory.proofs.cards.Tests.{all_elim}
use Rattle.frame.specs.Frame.{char_of, hex_of, line_of, bytes_of}
use Rattle.netlist.specs.declared.Netlist.{Netlist}
use Rattle.netlist.specs.Answer.{Said, value, refused}
use Rattle.netlist.specs.Net.{zeros, plain}
use Rattle.netlist.specs.Read.{Reads}
use Rattle.netlist.specs.Write.{joined, text_of}
use Rattle.netlist.proofs.Rows.{length_zeros}
use Rattle.netlist.proofs.Run.{fit_rows}
use Rattle.netlist.proofs.theorems.One.{one_reading}
use Rattle.netlist.proofs.theorems.Some.{some_reading}
use Rattle.netlist.proofs.theorems.Sound.{reads_text}
use Rattle.lags.proofs.Laws.{read_sure}
use Rattle.retime.specs.Retime.{Room}
use Rattle.retime.specs.Card.{bytes, printed, Result, back, refuses, runs, ClaimOf, Claim, A, cards}
use Rattle.retime.proofs.cards.Claims.{alike, alike_yes}
use Rattle.retime.proofs.theorems.Cards.{cards_hold}
use Rattle.retime.proofs.theorems.Outcome.{some_outcome, one_outcome}
use Rattle.printing.specs.Shown.{refusal_line}
use Rattle.printing.specs.Listed.{twos, listed, Prints}
use Rattle.printing.specs.Theorems.{SomePrint, OnePrint, Page, PageOf, first, pages, PagesHold}

pub some_print : SomePrint
some_print t =
    let (s, new, lags, w) = some_outcome t (zeros (length t)) (replicate 512 (pos 0)) in
    let (read, net, r) = some_reading t in
    (listed s (take (length (text_of (plain net))) new) lags net.nodes, record { said = s; new = new; lags = lags; retimes = w; read = read; net = net; reads = r; prints = refl })

pub one_print : OnePrint
one_print t p q x y =
    let o = one_outcome t (zeros (length t)) (replicate 512 (pos 0)) x.said y.said x.new y.new x.lags y.lags x.retimes y.retimes in
    let n = (one_reading t x.read y.read x.net y.net x.reads y.reads).1 in
    let printed : Said → List ℕ → List ℤ → Netlist → List ℕ = λ s new lags net. listed s (take (length (text_of (plain net))) new) lags net.nodes in
    x.prints ∙ ap (λ s. printed s x.new x.lags x.net) o.0 ∙ ap (λ z. printed y.said z x.lags x.net) o.1
    ∙ ap (λ z. printed y.said y.new z x.net) o.2 ∙ ap (printed y.said y.new y.lags) n ∙ sym y.prints

-- ── The bench cards ─────────────────────────────────────────────────────────────────────────

-- Into a buffer as long as the text, and a table of 512 lags.
module _ (t : List ℕ) where
  left : List ℕ → List ℕ
  left new = new ++ drop (length new) (zeros (length t))

  table : List ℤ → List ℤ
  table r = r ++ drop (length r) (replicate 512 (pos 0))

  room : (net : Netlist) → Reads t (value 0) net → Room (zeros (length t)) (replicate 512 (pos 0)) net
  room net h = record { text = omega (arith, length_zeros (length t), ap length (reads_text h)); table = (fit_rows net (read_sure t net h).fit).0 }

  unfoldable page? : Result → List String → Bool
  page? (back new r chosen) ends = alike (listed (value chosen) (take (length t) (left new)) (table r) (length r)) (new ++ printed ends)
  page? (refuses (value k)) ends = false
  page? (refuses (refused q k p)) ends = alike (refusal_line (refused q k p)) (printed ends)
  page? (runs vectors outputs) ends = true

  page : (o : Result) (ends : List String) → T (page? o ends) → ClaimOf t o → PageOf t o ends
  unfolding page? left table
  page (back new r chosen) ends x (net, h, l, claim) =
      subst (Prints t) (alike_yes (listed (value chosen) (take (length t) (left new)) (table r) (length r)) (new ++ printed ends) x) (record {
        said = value chosen;
        new = left new;
        lags = table r;
        retimes = claim (zeros (length t)) (replicate 512 (pos 0)) (room net h);
        read = value 0;
        net = net;
        reads = h;
        prints = ap₂ (λ n m. listed (value chosen) (take n (left new)) (table r) m) (ap length (reads_text h)) l;
      })
  page (refuses (value k)) ends x claim = absurd x
  page (refuses (refused q k p)) ends x (net, h, claim) =
      subst (Prints t) (alike_yes (refusal_line (refused q k p)) (printed ends) x) (record {
        said = refused q k p;
        new = zeros (length t);
        lags = replicate 512 (pos 0);
        retimes = claim (zeros (length t)) (replicate 512 (pos 0)) (room net h);
        read = value 0;
        net = net;
        reads = h;
        prints = refl;
      })
  page (runs vectors outputs) ends x claim = claim

abbrev passes : Page → Bool
passes p = page? p.card.text p.card.result p.ends

-- The pages' cards are retime's, in order.
card_of : (k : ℕ) → (get_or pages k first).card ≡ get_or cards k A
card_of k = sym (get_or-map (λ p. p.card) pages k first)

pub pages_hold : PagesHold
unfolding page? left table zeros bytes printed joined char_of hex_of line_of bytes_of twos
pages_hold k h =
    let p = get_or pages k first in
    page p.card.text p.card.result p.ends (all_elim (length pages) (λ j. passes (get_or pages j first)) tt k h) (subst Claim (sym (card_of k)) (cards_hold k h))

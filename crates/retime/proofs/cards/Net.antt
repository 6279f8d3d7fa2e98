-- The netlist of a card of the theory's table (theory, proofs/cards), and the card that it is as a text.
--   net_of              the record of rows, with derate 100
--   padded_at           zeros past a list are as none
--   graph_is, regs_is, delay_is    its circuit is the theory's
--   derive              the card as a text
--   derived             the cards of specs/Card are those of the theory's table
use Prim.Native.Nat.{ℕ, ◌+◌, ◌*◌, ◌-◌, ◌<◌}
use native.Mathlib.Omega.{arith}
use native.Mathlib.Decide.{dec_lt}
use mathlib.Core.Path.{◌≡◌, refl, sym, ap, ap₂, ◌∙◌}
use mathlib.Core.List.{List, ◌++◌, map}
use lib.ListN.{length, get_or, get_or-map, get_or-append, get_or-eq_default}
use lib.Seq.{get_or-append-add}
use Rattle.frame.specs.Frame.{char_of, hex_of, line_of, bytes_of}
use Rattle.theory.specs.Clock.{Regs}
use Rattle.theory.specs.Move.{sum}
use Rattle.theory.proofs.cards.Sweep.{at}
use Rattle.theory.proofs.cards.Run.{Rows, graph, bit, regs}
use Rattle.theory.proofs.cards.Claims as T
use Rattle.theory.proofs.cards.Table.{in_line}
use Rattle.theory.proofs.cards.Table as Table
use Rattle.netlist.specs.declared.Netlist.{Netlist}
use Rattle.netlist.specs.Answer.{whole, at_edge}
use Rattle.netlist.specs.Net.{zeros, net_with, graph_of, regs_of, rounded, working, delay_of}
use Rattle.netlist.proofs.theorems.Halves.{rounded_whole}
use Rattle.netlist.specs.Write.{joined, text_of}
use Rattle.netlist.proofs.Rows.{zeros_at}
use Rattle.moves.specs.Moved.{with_regs}
use Rattle.retime.specs.Card.{bytes, printed, Card, Result, back, refuses, runs, A, cards}

abbrev padded : ℕ → List ℕ → List ℕ
padded m l = l ++ zeros (m - length l)

pub padded_at : (m : ℕ) (l : List ℕ) (i : ℕ) → get_or (padded m l) i 0 ≡ get_or l i 0
padded_at m l i = go (dec_lt i (length l))
  where
    go : Dec (i < length l) → get_or (padded m l) i 0 ≡ get_or l i 0
    go (yes h) = get_or-append l (zeros (m - length l)) 0 i h
    go (no h) =
        let e : i ≡ length l + (i - length l) = omega arith in
        ap (λ j. get_or (padded m l) j 0) e ∙ get_or-append-add l (zeros (m - length l)) (i - length l) 0 ∙ zeros_at (m - length l) (i - length l)
        ∙ sym (get_or-eq_default l 0 (omega arith))

-- On every card the derate is 100.
unfoldable pub net_of : Rows → ℕ → Netlist
net_of t period =
    net_with period 100 (length t.kind) (length t.src)
    (padded 512 t.kind) (padded 512 t.delay) (padded 1024 t.src) (padded 1024 t.dst) (padded 1024 t.count) (padded 1024 t.start)

module _ (t : Rows) (period : ℕ) where
  pub graph_is : graph_of (net_of t period) ≡ graph t
  unfolding net_of
  graph_is = λ i. record {
    nodes = length t.kind;
    edges = length t.src;
    kind = λ v. padded_at 512 t.kind v i;
    src = λ e. padded_at 1024 t.src e i;
    dst = λ e. padded_at 1024 t.dst e i;
  }

  pub regs_is : regs_of (net_of t period) ≡ regs t
  unfolding net_of
  regs_is = λ i. record { count = λ e. padded_at 1024 t.count e i; start = λ e k. bit (padded_at 1024 t.start e i) k }

  pub delay_is : delay_of (net_of t period) ≡ at t.delay
  unfolding net_of working
  delay_is = λ i v. full v i
    where
      full : (v : ℕ) → delay_of (net_of t period) v ≡ at t.delay v
      full v = ap (λ d. rounded (d * 100)) (padded_at 512 t.delay v) ∙ rounded_whole (at t.delay v)

-- The registers of counts and words.
abbrev pub new_regs : List ℕ → List ℕ → Regs
new_regs counts words = record { count = λ e. get_or counts e 0; start = λ e k. bit (get_or words e 0) k }

unfoldable pub result_of : Netlist → T.Result → Result
result_of net (T.back r n c counts words) = back (text_of (with_regs net (new_regs counts words))) r n
result_of net T.refused_8 = refuses (whole 8)
result_of net (T.refused_9 r e) = refuses (at_edge 9 e)
result_of net (T.refused_11 r) = refuses (whole 11)
result_of net (T.shows v ins outs) = runs ins outs

abbrev pub derive : T.Card → Card
derive c = record { text = text_of (net_of c.rows c.period); result = result_of (net_of c.rows c.period) c.result }

-- The first card of the theory's table, whatever stands for a card that is missing.
abbrev pub first : T.Card
first = get_or Table.cards 0 (record { rows = in_line; bias = 0; period = 0; result = T.refused_8 })

-- By computing both.
all_derived : cards ≡ map derive Table.cards
unfolding bytes printed net_of result_of zeros sum char_of hex_of line_of bytes_of joined text_of
all_derived = refl

pub derived : (k : ℕ) → get_or cards k A ≡ derive (get_or Table.cards k first)
derived k = ap₂ (λ d l. get_or l k d) (ap (λ l. get_or l 0 A) all_derived) all_derived ∙ get_or-map derive Table.cards k first

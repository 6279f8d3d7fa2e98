-- From what the call found to what it says.
--   Row, row_one, row_some    the row of the call
--   reads_fit           the lines of a text that reads keep their rules
--   total_is            a number that is given is the total of the text's netlist
--   sound_counts        a text that reads and a table that is long enough are given it
--   rails_stop, rails_short, rails_done    a refusal of the reading; 12; or the counts
use Prim.Native.Nat.{ℕ, ◌<◌, ◌≤◌}
use native.Mathlib.Omega.{arith}
use native.Mathlib.Decide.{dec_lt}
use mathlib.Core.Path.{◌≡◌, refl, sym, ap, ◌∙◌, subst, subst₂}
use mathlib.Core.List.{List, [], ◌∷◌, ◌++◌}
use lib.ListN.{length, take, drop}
use Rattle.netlist.specs.declared.Netlist.{Netlist}
use Rattle.netlist.specs.Answer.{Said, value, refused, whole}
use Rattle.netlist.specs.Order.{◌or_else◌, here, past, Given, Otherwise, Stops}
use Rattle.netlist.specs.Net.{graph_of, regs_of}
use Rattle.netlist.specs.Read.{Reads}
use Rattle.netlist.specs.Write.{joined}
use Rattle.netlist.specs.Theorems.{Fit}
use Rattle.netlist.proofs.Fits.{clash}
use Rattle.netlist.proofs.Order.{One, Some, else_one, else_some, given_one, given?, later, no_stop, otherwise_one, stops_one, stops?}
use Rattle.netlist.proofs.Rows.{rows_length}
use Rattle.netlist.proofs.theorems.One.{one_reading}
use Rattle.netlist.proofs.theorems.Sound.{reads_keeps}
use Rattle.rails.specs.Rails.{rails_at, rails_in, Rails}
use Rattle.rails.specs.inner.Shared.{Counted}
use Rattle.rails.proofs.Counted.{rails_total, rows_taken, counted_rows}

-- ── The row ─────────────────────────────────────────────────────────────────────────────────

-- An earlier refusal, 12 where the room is less than n, or the number.
abbrev pub Row : Said → ℕ → ℕ → ℕ → Said → Type 0
Row c room n number = Stops c or_else Given (room < n) (whole 12) or_else Otherwise (value number)

pub row_one : (c : Said) (room n number : ℕ) → One (Row c room n number)
row_one c room n number = else_one (stops_one c) (else_one (given_one (room < n) (whole 12)) (otherwise_one (value number)))

pub row_some : (c : Said) (room n number : ℕ) → Some (Row c room n number)
row_some c room n number = else_some (stops? c) (else_some (given? (whole 12) (dec_lt room n)) (value number, refl))

-- ── A number that is given ──────────────────────────────────────────────────────────────────

pub reads_fit : {t : List ℕ} {n : ℕ} {net : Netlist} → Reads t (value n) net → Fit net
reads_fit r = (reads_keeps r).lines

number_is : {room n number total : ℕ} → (Given (room < n) (whole 12) or_else Otherwise (value number)) (value total) → total ≡ number
number_is (here (h, e)) = clash (cc)
number_is (past _ e) = cc

pub total_is : {t old new : List ℕ} {net : Netlist} {total : ℕ} → Reads t (value 0) net → Rails t old (value total) new → total ≡ rails_in (graph_of net) (regs_of net)
total_is {t} {net = net} {total} r x =
    let e = one_reading t x.checked (value 0) x.net net x.reads r in
    subst (λ n. total ≡ rails_in (graph_of n) (regs_of n)) e.1 (number_is (later (value total) (no_stop 0 e.0) x.answer))

pub sound_counts : {t old new : List ℕ} {net : Netlist} {s : Said} → Reads t (value 0) net → net.nodes ≤ length old → Rails t old s new
    → s ≡ value (rails_in (graph_of net) (regs_of net))
sound_counts {t} {old} {net = net} {s} r h w =
    let e = one_reading t w.checked (value 0) w.net net w.reads r in
    let total = rails_in (graph_of net) (regs_of net) in
    row_one (value 0) (length old) net.nodes total s (value total) (subst₂ (λ c n. Row c (length old) n.nodes (rails_in (graph_of n) (regs_of n)) s) e.0 e.1 w.answer)
    (past (λ x b. b) (past (λ x g. omega (arith, g.0)) refl))

-- ── The three ends of the call ──────────────────────────────────────────────────────────────

module _ (t old : List ℕ) (net : Netlist) where
  pub rails_stop : {q k p : ℕ} → Reads t (refused q k p) net → Rails t old (refused q k p) old
  rails_stop {q} {k} {p} reads = record { checked = refused q k p; net = net; reads = reads; answer = here refl; table = refl }

  module _ (reads : Reads t (value 0) net) where
    pub rails_short : length old < net.nodes → Rails t old (whole 12) old
    rails_short h = record { checked = value 0; net = net; reads = reads; answer = past (λ x s. s) (here (h, refl)); table = refl }

    pub rails_done : net.nodes ≤ length old → {total : ℕ} {rails new : List ℕ} → Counted net net.edges total rails → net.nodes ≤ length rails
        → new ≡ take net.nodes rails ++ drop net.nodes old → Rails t old (value total) new
    rails_done h {total} {rails} {new} c long p =
        let rows = joined (λ u. rails_at (graph_of net) (regs_of net) u ∷ []) net.nodes in
        let fit = reads_fit reads in record {
          checked = value 0;
          net = net;
          reads = reads;
          answer = past (λ x s. s) (past (λ x g. omega (arith, g.0)) (ap value (c.all ∙ sym (rails_total net fit))));
          table = p ∙ ap (λ l. l ++ drop net.nodes old) (sym (rows_taken rails net.nodes long) ∙ counted_rows net c)
              ∙ ap (λ k. rows ++ drop k old) (sym (rows_length (rails_at (graph_of net) (regs_of net)) net.nodes));
        }

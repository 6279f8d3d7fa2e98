-- A netlist with other registers: it reads where they are sound and no count is above 32.
--   with_same           registers that are the same give the same record
--   with_is             the record of columns that hold the registers
--   with_regs_same      its circuit has these registers
--   with_fit, with_clean    its lines keep the rules 2, 3 and 4; its other rows are 0
--   with_reads          its text reads
use Prim.Native.Nat.{ℕ, ◌*◌, ◌^◌, ◌<◌, ◌≤◌}
use mathlib.Core.Path.{◌≡◌, refl, sym, ap, ap₂, ◌∙◌, subst₂}
use mathlib.Core.Bool.{true}
use mathlib.Core.List.{List}
use lib.Dec.{ltb, leb}
use lib.ListN.{length, get_or}
use borrow.Author.Tests.{lt-ltb, le-leb}
use Rattle.theory.specs.Clock.{Regs}
use Rattle.theory.specs.inner.Registers.{SameRegs}
use Rattle.theory.specs.Gate.{gate}
use Rattle.theory.specs.Retimer.{Sound}
use Rattle.netlist.specs.declared.Netlist.{Netlist}
use Rattle.netlist.specs.Answer.{value}
use Rattle.graph.specs.Columns.{bit}
use Rattle.netlist.specs.Net.{with_columns, graph_of, regs_of}
use Rattle.rules.specs.Rules.{edge_fits}
use Rattle.netlist.specs.Read.{Reads, judged}
use Rattle.netlist.specs.Write.{text_of}
use Rattle.netlist.specs.Theorems.{Fit, Clean}
use Rattle.netlist.proofs.Fits.{both}
use Rattle.netlist.proofs.Run.{fit_rows}
use Rattle.netlist.proofs.theorems.Lines.{lines_fact}
use Rattle.netlist.proofs.Judged.{judged_sound}
use Rattle.netlist.proofs.theorems.Sound.{reads_value, reads_keeps}
use Rattle.moves.specs.Moved.{word_of, with_regs}
use Rattle.moves.specs.inner.Columns.{Filled, none}
use Rattle.moves.proofs.Words.{word_fits, word_bit}
use Rattle.theory.proofs.numbers.Sums.{sum_same}
use Rattle.moves.proofs.Rows.{column_length, column_in, column_past, column_is, column_same}
use Rattle.moves.proofs.Lags.{loop_alike}

pub with_same : (net : Netlist) (R R' : Regs) → SameRegs (graph_of net) R R' → with_regs net R' ≡ with_regs net R
with_same net R R' same =
    let word : (e : ℕ) → e < net.edges → word_of (R'.start e) (R'.count e) ≡ word_of (R.start e) (R.count e) =
    λ e h. ap (word_of (R'.start e)) (same.counts e h) ∙ sum_same _ _ (R.count e) (λ k l. ap (λ b. b * 2 ^ k) (same.starts e k h l)) in
    let a = column_same R'.count R.count net.edges same.counts in
    let b = column_same (λ e. word_of (R'.start e) (R'.count e)) (λ e. word_of (R.start e) (R.count e)) net.edges word in
    ap₂ (with_columns net) a b

-- The record that code fills: a column of counts and a column of words that hold these registers, and 0 past them.
pub with_is : (net : Netlist) (R : Regs) (counts words : List ℕ) → net.edges ≤ 1024 → length counts ≡ 1024 → length words ≡ 1024
    → Filled R.count none net.edges counts → Filled (λ e. word_of (R.start e) (R.count e)) none net.edges words → with_regs net R ≡ with_columns net counts words
with_is net R counts words few p q a b =
    ap₂ (with_columns net) (column_is R.count net.edges few counts p a.rows a.past)
    (column_is (λ e. word_of (R.start e) (R.count e)) net.edges few words q b.rows b.past)

-- The edge's other numbers keep rule 4, whatever its registers.
edge_fits_with : (nodes : ℕ) (kind : ℕ → ℕ) (u v w s w' s' : ℕ) → edge_fits nodes kind u v w s ≡ true → w' ≤ 32 → s' < 2 ^ w' → edge_fits nodes kind u v w' s' ≡ true
unfolding edge_fits
edge_fits_with nodes kind u v w s w' s' h a b =
    let f = both (ltb u nodes) _ h in
    let g = both (ltb v nodes) _ f.1 in
    let k = both (leb w 32) _ g.1 in
    let l = both (ltb s (2 ^ w)) _ k.1 in
    rw (f.0, g.0, le-leb w' 32 a, lt-ltb s' (2 ^ w') b) l.1

module _ (net : Netlist) (R : Regs) (few : net.edges ≤ 1024) (bits : (e t : ℕ) → e < net.edges → t < R.count e → R.start e t ≤ 1) where
  count_in : (e : ℕ) → e < net.edges → get_or (with_regs net R).count e 0 ≡ R.count e
  count_in e h = column_in R.count net.edges few e h

  word_in : (e : ℕ) → e < net.edges → get_or (with_regs net R).start e 0 ≡ word_of (R.start e) (R.count e)
  word_in e h = column_in (λ e. word_of (R.start e) (R.count e)) net.edges few e h

  pub with_regs_same : SameRegs (graph_of net) R (regs_of (with_regs net R))
  with_regs_same = record {
    counts = count_in;
    starts = λ e t h l. ap (λ w. bit w t) (word_in e h) ∙ word_bit (R.start e) (R.count e) t l (λ k j. bits e k h j);
  }

  pub with_fit : Fit net → ((e : ℕ) → e < net.edges → R.count e ≤ 32) → Fit (with_regs net R)
  with_fit f narrow = record {
    head = f.head;
    node = f.node;
    edge = λ e h.
        subst₂ (λ w s. edge_fits net.nodes (graph_of net).kind (get_or net.from e 0) (get_or net.to e 0) w s ≡ true) (sym (count_in e h)) (sym (word_in e h))
        (edge_fits_with net.nodes (graph_of net).kind _ _ _ _ (R.count e) (word_of (R.start e) (R.count e)) (f.edge e h) (narrow e h)
        (word_fits (R.start e) (R.count e) (λ k j. bits e k h j)));
  }

  pub with_clean : Clean net → Clean (with_regs net R)
  with_clean c = record {
    kinds = c.kinds;
    ends = (c.ends.0, c.ends.1, column_length R.count net.edges few, column_length (λ e. word_of (R.start e) (R.count e)) net.edges few);
    node = c.node;
    edge = λ e h. ((c.edge e h).0, (c.edge e h).1, column_past R.count net.edges few e h, column_past (λ e. word_of (R.start e) (R.count e)) net.edges few e h);
  }

-- The head, the nodes and the edges' ends stay, so 2, 3, 5 and 7 do. A word of bits fits its count, so 4 does. A loop is without a register in the record where it is in these registers.
pub with_reads : (t : List ℕ) (net : Netlist) (R : Regs) → Reads t (value 0) net → Sound gate (graph_of net) R → ((e : ℕ) → e < net.edges → R.count e ≤ 32)
    → Reads (text_of (with_regs net R)) (value 0) (with_regs net R)
with_reads t net R r ok narrow =
    let k = reads_value r in
    let j = reads_keeps r in
    let l = (lines_fact t net).0 k.0 in
    let few = (fit_rows net l.0).1 in
    let bits = ok.bits.starts in
    let same = with_regs_same net R few bits in
    judged (with_regs net R)
    ((lines_fact (text_of (with_regs net R)) (with_regs net R)).1 (with_fit net R few bits l.0 narrow, with_clean net R few bits l.1, refl))
    (judged_sound (with_regs net R) j.fan_in
    (λ o. ok.no_loop (loop_alike (regs_of (with_regs net R)).count R.count same.counts o))
    j.joined)
    refl

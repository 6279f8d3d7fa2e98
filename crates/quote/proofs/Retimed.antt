-- The text with another period in its head, retimed into enough room.
--   number_said         what is said of a netlist that comes back is how many values are chosen
--   moved_counts        its counts are the new counts
--   eight_at, nine_at, ten_at    it is refused 8, 9 or 10 as the period, the largest new count and the number of values to choose have it
--   chosen_at, counts_at         what comes back has that number and these counts
use Prim.Native.Nat.{ℕ, ◌<◌, ◌≤◌}
use native.Mathlib.Omega.{arith}
use mathlib.Core.Path.{◌≡◌, sym, ◌∙◌, subst}
use mathlib.Core.Logic.{◌↔◌}
use mathlib.Core.List.{List}
use lib.IntN.{ℤ}
use lib.ListN.{length, take}
use Rattle.theory.specs.Gate.{gate}
use Rattle.theory.specs.Move.{sum, move}
use Rattle.theory.proofs.numbers.Sums.{sum_same}
use Rattle.theory.proofs.least.Exists.{least_unique}
use Rattle.graph.specs.Columns.{at}
use Rattle.netlist.specs.declared.Netlist.{Netlist}
use Rattle.netlist.specs.Answer.{Said, value, whole, at_edge}
use Rattle.netlist.specs.Net.{at_period, plain, graph_of, regs_of}
use Rattle.netlist.specs.Circuit.{LeastIn, NarrowAt, NoneMeetsIn, chosen_in_at}
use Rattle.netlist.specs.inner.Words.{LegalAt, new_count_at}
use Rattle.netlist.specs.Order.{here, past}
use Rattle.netlist.specs.Read.{Reads}
use Rattle.netlist.specs.Write.{text_of}
use Rattle.netlist.proofs.Fits.{clash}
use Rattle.netlist.proofs.theorems.Sound.{read_is_sound}
use Rattle.moves.specs.Moved.{moved_net}
use Rattle.moves.proofs.Lags.{count_alike}
use Rattle.retime.specs.Demand.{table_lag}
use Rattle.retime.specs.Retime.{MovedBy}
use Rattle.retime.specs.Theorems.{RetimeFacts}
use Rattle.retime.proofs.Order.{moved_at}
use Rattle.retime.proofs.Call.{left_of}
use Rattle.retime.proofs.theorems.Moved.{moved_regs}
use Rattle.retime.proofs.theorems.Refusals.{refusal_facts}
use Rattle.retime.proofs.theorems.Demand.{demand_follows}
use Rattle.quote.specs.Quote.{most, registers_at, largest_at}
use Rattle.quote.specs.Theorems.{RetimedAt}
use Rattle.quote.proofs.Most.{most_same, most_holds, most_first}

number_said : (net : Netlist) (r : ℕ → ℤ) (c k : ℕ) → MovedBy net r c (value k) → k ≡ chosen_in_at net r
number_said net r c k (here (_, _, z)) = clash (cc)
number_said net r c k (past _ (here (_, z))) = clash (cc)
number_said net r c k (past _ (past _ (here (_, z)))) = clash (cc)
number_said net r c k (past _ (past _ (past _ (_, z)))) = cc

moved_counts : (t : List ℕ) (net : Netlist) (r : ℕ → ℤ) (c : ℕ) → Reads t (value 0) net → LegalAt net r
    → (e : ℕ) → e < net.edges → new_count_at net r e ≡ at (moved_net net r c).count e
unfolding move
moved_counts t net r c h legal e he = sym ((moved_regs t net r c h legal).counts e he)

module _ (net : Netlist) (p : ℕ) (h : Reads (text_of (at_period net p)) (value 0) (at_period net p)) {s : Said} {out' : List ℕ} (x : RetimedAt net p s out') where
  abbrev its : Netlist
  its = at_period net p

  facts : RetimeFacts x.out x.lags s its
  facts = refusal_facts (text_of its) x.out x.lags s out' x.lags' its h x.retimes

  pub eight_at : (s ≡ whole 8) ↔ NoneMeetsIn net p
  eight_at = facts.eight x.room

  module _ (r : ℕ → ℤ) (l : LeastIn net p r) where
    pub nine_at : (32 < largest_at net r) ↔ ((e : ℕ) × (s ≡ at_edge 9 e))
    nine_at = (
      λ above. let (e, he, w, first) = most_first (new_count_at net r) net.edges 32 above in (e, (facts.nine x.room r l e).1 (record { edge = he; wide = w; lowest = first })),
      λ (e, z). let w = (facts.nine x.room r l e).0 z in omega (arith, w.wide, most_holds (new_count_at net r) net.edges e w.edge),
    )

    pub ten_at : largest_at net r ≤ 32 → (24 < chosen_in_at net r) ↔ (s ≡ whole 10)
    ten_at within =
        let narrow : NarrowAt net r = λ e he. omega (arith, most_holds (new_count_at net r) net.edges e he) in
        (λ many. (facts.ten x.room r l).1 (narrow, many), λ z. ((facts.ten x.room r l).0 z).1)

    -- What is said from 9 on is said of the least lags, whichever they are.
    pub chosen_at : (k : ℕ) → s ≡ value k → k ≡ chosen_in_at net r
    chosen_at k z =
        let left = left_of its h x.retimes in
        let row = moved_at x.out x.lags its left.lag left.choice (read_is_sound (text_of its) its h) x.room r l left.answer in
        number_said its r left.choice k (subst (MovedBy its r left.choice) z row)

    -- What comes back is moved by the lags of the table, and these are the least at each node.
    pub counts_at : (k : ℕ) → s ≡ value k → (new : Netlist) × Reads (take (length (text_of (plain its))) out') (value 0) new
        × (registers_at net r ≡ sum (at new.count) new.edges) × (largest_at net r ≡ most (at new.count) new.edges)
    unfolding moved_net
    counts_at k z =
        let q = table_lag x.lags' in
        let c = (demand_follows (text_of its) x.out x.lags s out' x.lags' x.retimes).came its h (k, z) in
        let new = moved_net its q c.number in
        let same : (e : ℕ) → e < net.edges → new_count_at net r e ≡ at new.count e =
        λ e he.
        count_alike gate (graph_of net) (read_is_sound (text_of its) its h).wired (regs_of net) r q (least_unique r q l c.least) e he
        ∙ moved_counts (text_of its) its q c.number h c.least.feasible.legal e he in
        (new, c.reads, sum_same _ _ net.edges same, most_same _ _ net.edges same)

-- From what the theory's card claims of its rows to what the card claims of its text.
--   alike               two lists are equal: a test
--   limits?             the limits of 9 and 10, and the run of a card that is run
--   text_claim          what comes of the text
--   card_claim
use Prim.Native.Nat.{ℕ, ◌*◌, ◌%◌, ◌<◌, ◌≤◌}
use native.Mathlib.Omega.{arith}
use mathlib.Core.Path.{◌≡◌, sym, ap, ◌∙◌, subst}
use mathlib.Core.Bool.{Bool, true, ◌&&◌}
use mathlib.Core.List.{List, [], ◌∷◌, ◌++◌}
use lib.Dec.{T, leb, eqb, leb→le, eqb→eq}
use lib.IntN.{ℤ, pos}
use lib.ListN.{length, drop}
use lib.Seq.{ext_get_or}
use Rattle.theory.proofs.cards.Tests.{ands, all, all_elim}
use Rattle.theory.proofs.cards.Sweep.{at}
use Rattle.theory.proofs.cards.Run.{graph, bit, regs}
use Rattle.theory.proofs.cards.Claims as T
use Rattle.netlist.specs.declared.Netlist.{Netlist}
use Rattle.netlist.specs.Answer.{value}
use Rattle.netlist.specs.Net.{graph_of, regs_of, delay_of}
use Rattle.netlist.specs.Circuit.{ManyAt, NarrowAt, chosen_in_at}
use Rattle.netlist.specs.inner.Words.{new_count_at, retimed_at}
use Rattle.rules.specs.Rules.{every}
use Rattle.netlist.specs.Read.{Reads}
use Rattle.netlist.specs.Write.{text_of}
use Rattle.simulate.specs.Clock.{inputs, outputs}
use Rattle.simulate.specs.Step.{only_bits}
use Rattle.simulate.specs.Run.{clocks_from, clocks, run_fits}
use Rattle.simulate.proofs.Says.{Row, row_goes}
use Rattle.moves.specs.Moved.{with_regs, moved_net}
use Rattle.retime.specs.Retime.{lag_table, MovedBy}
use Rattle.retime.specs.Demand.{table_lag}
use Rattle.retime.specs.Card.{ClaimOf, Claim}
use Rattle.netlist.proofs.Rows.{rows_length, rows_in}
use Rattle.moves.proofs.Moved.{with_same}
use Rattle.retime.proofs.Order.{wide, startless, moved}
use Rattle.retime.proofs.Call.{of_left, none, from_9, said}
use Rattle.retime.proofs.cards.Net.{net_of, graph_is, regs_is, delay_is, new_regs, result_of, derive}
use Rattle.retime.proofs.cards.Reads.{is_true, reads?, reads_yes}

abbrev pub alike : List ℕ → List ℕ → Bool
alike a b = eqb (length a) (length b) && all (length a) (λ i. eqb (at a i) (at b i))

pub alike_yes : (a b : List ℕ) → T (alike a b) → a ≡ b
alike_yes a b =
    ands (eqb (length a) (length b)) _
    λ x y. ext_get_or 0 a b (eqb→eq (length a) (length b) x) (λ i h. eqb→eq (at a i) (at b i) (all_elim (length a) (λ i. eqb (at a i) (at b i)) y i h))

module _ (net : Netlist) where
  abbrev narrow? : (ℕ → ℤ) → Bool
  narrow? r = all net.edges (λ e. leb (new_count_at net r e) 32)

  abbrev few? : (ℕ → ℤ) → Bool
  few? r = leb (chosen_in_at net r) 24

  abbrev goes? : List ℕ → Bool
  goes? vectors = every (eqb (length vectors % inputs net) 0 ∷ only_bits vectors ∷ [])

  abbrev pub limits? : T.Result → Bool
  limits? (T.back r n c counts words) = eqb (length r) net.nodes && (narrow? (table_lag r) && few? (table_lag r))
  limits? T.refused_8 = true
  limits? (T.refused_9 r e) = true
  limits? (T.refused_11 r) = narrow? (table_lag r) && few? (table_lag r)
  limits? (T.shows v vectors outs) =
      goes? vectors && (eqb (clocks net vectors * outputs net) (length outs) && alike (clocks_from net (clocks net vectors) net.start vectors) outs)

  -- The lags of a table that is as long as the netlist has nodes are the table.
  lags_are : (r : List ℤ) → length r ≡ net.nodes → lag_table net (table_lag r) ≡ r
  lags_are r e = ext_get_or (pos 0) (lag_table net (table_lag r)) r (rows_length (table_lag r) net.nodes ∙ sym e) (λ i h. rows_in (table_lag r) (pos 0) net.nodes i (omega (arith, rows_length (table_lag r) net.nodes)))

  narrow_yes : (r : ℕ → ℤ) → T (narrow? r) → NarrowAt net r
  narrow_yes r t e h = leb→le _ 32 (all_elim net.edges (λ e. leb (new_count_at net r e) 32) t e h)

  few_yes : (r : ℕ → ℤ) → T (few? r) → ¬ ManyAt net r
  few_yes r t h = omega (arith, leb→le (chosen_in_at net r) 24 t)

  -- The retimed registers are those of the counts and words.
  moved_is : (r : ℕ → ℤ) (c : ℕ) (counts words : List ℕ)
      → ((e : ℕ) → e < net.edges → (retimed_at net r c).count e ≡ at counts e)
      → ((e : ℕ) → e < net.edges → (t : ℕ) → t < at counts e → (retimed_at net r c).start e t ≡ bit (at words e) t)
      → with_regs net (new_regs counts words) ≡ moved_net net r c
  unfolding moved_net
  moved_is r c counts words a b =
      with_same net (retimed_at net r c) (new_regs counts words)
      (record { counts = λ e h. sym (a e h); starts = λ e t h l. sym (b e h t (omega (arith, a e h))) })

  run_says : (vectors : List ℕ) (n old : ℕ) → T (goes? vectors) → clocks net vectors * outputs net ≡ n → n ≤ old
      → Row (value 0) (run_fits net vectors) (clocks net vectors * outputs net) old (value n)
  run_says vectors n old t e h = row_goes (is_true (goes? vectors) t) (omega (arith, e, h)) (sym e)

  module _ (reads : Reads (text_of net) (value 0) net) where
    pub text_claim : (o : T.Result) → T (limits? o) → T.ClaimOf (graph_of net) (regs_of net) (delay_of net) net.period o → ClaimOf (text_of net) (result_of net o)
    unfolding result_of
    text_claim (T.back r n c counts words) t h =
        ands (eqb (length r) net.nodes) _
        (λ x. ands (narrow? (table_lag r)) (few? (table_lag r))
        (λ y z.
        let l = eqb→eq (length r) net.nodes x in (
          net,
          reads,
          l,
          λ out lags room.
              of_left net reads (from_9 net room (record {
                lag = table_lag r;
                choice = c;
                answer = subst (MovedBy net (table_lag r) c) (ap value h.chosen)
                    (moved net (table_lag r) c h.answer.least (narrow_yes (table_lag r) y) (few_yes (table_lag r) z) h.answer.best);
                buffer = ap (λ m. text_of m ++ drop (length (text_of m)) out) (moved_is (table_lag r) c counts words h.count h.start);
                table = ap (λ a. a ++ drop (length a) lags) (sym (lags_are r l));
              })),
        ))) t
    text_claim T.refused_8 t h = (net, reads, λ out lags room. of_left net reads (none net room h))
    text_claim (T.refused_9 r e) t h =
        (net, reads, λ out lags room. of_left net reads (from_9 net room (said out lags net (table_lag r) 0 (wide net (table_lag r) 0 h.0 e h.1))))
    text_claim (T.refused_11 r) t h =
        ands (narrow? (table_lag r)) (few? (table_lag r))
        (λ y z. (
          net,
          reads,
          λ out lags room.
              of_left net reads (from_9 net room (said out lags net (table_lag r) 0 (startless net (table_lag r) 0 h.0 (narrow_yes (table_lag r) y) (few_yes (table_lag r) z) h.1))),
        )) t
    text_claim (T.shows v vectors outs) t h =
        ands (goes? vectors) _
        (λ x. ands (eqb (clocks net vectors * outputs net) (length outs)) (alike (clocks_from net (clocks net vectors) net.start vectors) outs)
        (λ y z old k.
        let n = eqb→eq (clocks net vectors * outputs net) (length outs) y in
        let o = alike_yes (clocks_from net (clocks net vectors) net.start vectors) outs z in
        record {
          checked = value 0;
          net = net;
          reads = reads;
          answer = run_says vectors (length outs) (length old) x n k;
          buffer = ap (λ l. l ++ drop (length l) old) (sym o);
        })) t

-- The circuit of the card's netlist is the theory's, and its text reads: what holds there holds here.
module _ (c : T.Card) where
  abbrev pub passes : Bool
  passes = reads? c.rows c.period && limits? (net_of c.rows c.period) c.result

  claim_here : T.Claim c
      → T.ClaimOf (graph_of (net_of c.rows c.period)) (regs_of (net_of c.rows c.period)) (delay_of (net_of c.rows c.period)) c.period c.result
  claim_here h =
      subst (λ G. T.ClaimOf G (regs_of (net_of c.rows c.period)) (delay_of (net_of c.rows c.period)) c.period c.result) (sym (graph_is c.rows c.period))
      (subst (λ R. T.ClaimOf (graph c.rows) R (delay_of (net_of c.rows c.period)) c.period c.result) (sym (regs_is c.rows c.period))
      (subst (λ d. T.ClaimOf (graph c.rows) (regs c.rows) d c.period c.result) (sym (delay_is c.rows c.period)) h))

  pub card_claim : T passes → T.Claim c → Claim (derive c)
  unfolding net_of
  card_claim t h =
      ands (reads? c.rows c.period) (limits? (net_of c.rows c.period) c.result)
      (λ a b. text_claim (net_of c.rows c.period) (reads_yes c.rows c.period a) c.result b (claim_here h)) t

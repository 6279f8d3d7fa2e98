-- A record's own lines: never refused 1, refused nothing exactly where they keep the rules, and read back they are the same netlist.
--   Outcome net         its lines keep the rules, or one is the first that breaks its rule
--   head_breaks, node_breaks, edge_breaks    the first line that breaks its rule has that fault
--   cut_same            the rows that are read back are the netlist's
--   record_faults, record_fact, record_judged
use Prim.Native.Nat.{ℕ, ◌<◌}
use native.Mathlib.Omega.{arith}
use mathlib.Core.Path.{◌≡◌, refl, sym, ap, ◌∙◌, subst, subst₂}
use mathlib.Core.Logic.{◌⊎◌, ⊎_elim}
use mathlib.Core.Bool.{Bool, true, false, Bool-discrete}
use mathlib.Core.List.{◌++◌, append_assoc}
use lib.ListN.{get_or}
use Rattle.frame.specs.Frame.{frame_at}
use Rattle.netlist.specs.declared.Netlist.{Netlist}
use Rattle.netlist.specs.Answer.{Said, at_line}
use Rattle.netlist.specs.Read.{line_of_node, line_of_edge, fault, lines, lines_of, All, Lowest, Judged, kept, Reads, judged}
use Rattle.netlist.specs.Write.{head_line, node_line, edge_line, joined, text_of}
use Rattle.netlist.specs.Theorems.{head_test, node_test, edge_test, FitTo, Fit, FaultAt, head_range, node_rule, edge_rule, Same, Typed, RecordFault, bad_head, bad_node, bad_edge, RecordFaults, RecordFact, RecordJudged}
use Rattle.netlist.specs.inner.Record.{cut}
use Rattle.netlist.proofs.Fits.{clash}
use Rattle.netlist.proofs.Rows.{rows_to_in, joined_split}
use Rattle.netlist.proofs.Fields.{head_fields, edge_fields, head_bytes, edge_bytes, fields_read, fields_frame, node_bytes, node_numbers, node_frame}
use Rattle.netlist.proofs.Run.{fit_rows, fit_wired}
use Rattle.netlist.proofs.Decide.{lowest, judge}
use Rattle.netlist.proofs.Alike.{judged_same}
use Rattle.netlist.proofs.theorems.One.{one_reading}
use Rattle.netlist.proofs.theorems.Lines.{text_lines, fault_lines, lines_fact}

-- The first of n tests that fails, or all hold.
first_false : (test : ℕ → Bool) (n : ℕ) → ((v : ℕ) × Lowest (λ i. test i ≡ true) n v) ⊎ All (λ i. test i ≡ true) n
first_false test n = lowest n (λ v l. Bool-discrete (test v) true)

fails : (b : Bool) → ¬ (b ≡ true) → b ≡ false
fails true h = absurd (h refl)
fails false h = refl

-- Of the head, the nodes and the edges, the first that breaks its rule is told by 2, 3 or 4, as the lines before it keep theirs (`fault_lines`).
-- Where none breaks its rule, the lines give the rows back (`text_lines`).
data Outcome (net : Netlist) : Type 0 where
  fits : Fit net → Outcome net
  breaks : (q n : ℕ) → RecordFault net q n → Outcome net

module _ (net : Netlist) (t : Typed net) where
  head_breaks : head_test net ≡ false → FaultAt (text_of net) 2 1
  unfolding text_of
  head_breaks h =
      let p = net.period in
      let d = net.derate in
      let n = net.nodes in
      let e = net.edges in
      let x = fields_read (head_fields p d n e) (t.head.0, (t.head.1, (t.head.2, (t.head.3, tt)))) in
      let rest = joined (node_line net) n ++ joined (edge_line net) e in
      head_range (head_bytes p d n e) rest (ap (frame_at 1 7) (append_assoc (head_line net) (joined (node_line net) n) (joined (edge_line net) e)) ∙ fields_frame 1 (head_fields p d n e) rest (omega arith)) (rw (x.0, x.1.0, x.1.1.0, x.1.1.1.0) h)

  node_breaks : (v : ℕ) → FitTo net v 0 → v < net.nodes → node_test net v ≡ false → FaultAt (text_of net) 3 (line_of_node net v)
  unfolding text_of
  node_breaks v f l h =
      let k = get_or net.kind v 0 in
      let d = get_or net.delay v 0 in
      let s = joined_split (node_line net) net.nodes v l in
      let more = s.0 ++ joined (edge_line net) net.edges in
      let x = node_numbers k d in
      node_rule net v (node_line net v ++ more) (node_bytes k d) more f l (ap (λ y. head_line net ++ y ++ joined (edge_line net) net.edges) s.1 ∙ simp append_assoc)
      (node_frame k d (t.node v).0 (t.node v).1 more) (rw (x.0, x.1) h)

  edge_breaks : (e : ℕ) → FitTo net net.nodes e → e < net.edges → edge_test net e ≡ false
      → FaultAt (text_of net) 4 (line_of_edge net e)
  unfolding text_of
  edge_breaks e f l h =
      let u = get_or net.from e 0 in
      let v = get_or net.to e 0 in
      let w = get_or net.count e 0 in
      let s = get_or net.start e 0 in
      let r = joined_split (edge_line net) net.edges e l in
      let x = fields_read (edge_fields u v w s) ((t.edge e).0, ((t.edge e).1, ((t.edge e).2, ((t.edge e).3, tt)))) in
      edge_rule net e (edge_line net e ++ r.0) (edge_bytes u v w s) r.0 f l (ap (λ y. head_line net ++ joined (node_line net) net.nodes ++ y) r.1 ∙ simp append_assoc)
      (fields_frame 3 (edge_fields u v w s) r.0 (omega arith)) (rw (x.0, x.1.0, x.1.1.0, x.1.1.1.0) h)

module _ (net : Netlist) where
  module _ (head : head_test net ≡ true) where
    by_edges : All (λ v. node_test net v ≡ true) net.nodes → Outcome net
    by_edges nodes =
        ⊎_elim
        (λ r.
        let f : FitTo net net.nodes r.0 = record { head = head; node = nodes; edge = r.1.before } in
        breaks 4 (line_of_edge net r.0) (bad_edge r.0 f r.1.there (fails (edge_test net r.0) r.1.breaks)))
        (λ edges. fits (record { head = head; node = nodes; edge = edges }))
        (first_false (edge_test net) net.edges)

    by_nodes : Outcome net
    by_nodes =
        ⊎_elim
        (λ r.
        let f : FitTo net r.0 0 = record { head = head; node = r.1.before; edge = λ e l. absurd (omega arith) } in
        breaks 3 (line_of_node net r.0) (bad_node r.0 f r.1.there (fails (node_test net r.0) r.1.breaks)))
        by_edges
        (first_false (node_test net) net.nodes)

  outcome : Outcome net
  outcome = by_head (head_test net) refl
    where
      by_head : (b : Bool) → head_test net ≡ b → Outcome net
      by_head true a = by_nodes a
      by_head false a = breaks 2 1 (bad_head a)

-- The rows that are read back.
cut_same : (net : Netlist) → Fit net → Same net (cut net net.nodes net.edges)
cut_same net f =
    let rows = fit_rows net f in
    let n = rows_to_in 512 in
    let e = rows_to_in 1024 in
    record {
      head = (refl, refl, refl, refl);
      node = λ v l. (sym (n (λ i. get_or net.kind i 0) net.nodes rows.0 v l), sym (n (λ i. get_or net.delay i 0) net.nodes rows.0 v l));
      edge = λ v l. (
        sym (e (λ i. get_or net.from i 0) net.edges rows.1 v l),
        sym (e (λ i. get_or net.to i 0) net.edges rows.1 v l),
        sym (e (λ i. get_or net.count i 0) net.edges rows.1 v l),
        sym (e (λ i. get_or net.start i 0) net.edges rows.1 v l),
      );
    }

module _ (net : Netlist) (t : Typed net) where
  broken : {q n : ℕ} → RecordFault net q n → lines_of (text_of net) ≡ fault (at_line q n)
  broken (bad_head h) = fault_lines (head_breaks net t h)
  broken (bad_node v f l h) = fault_lines (node_breaks net t v f l h)
  broken (bad_edge e f l h) = fault_lines (edge_breaks net t e f l h)

  told : Outcome net → {q n : ℕ} → lines_of (text_of net) ≡ fault (at_line q n) → RecordFault net q n
  told (fits f) p = let l = text_lines net f in clash (cc)
  told (breaks q' n' b) {q} {n} p = let l = broken b in let x : q' ≡ q = cc in let y : n' ≡ n = cc in subst₂ (RecordFault net) x y b

  only_fit : Outcome net → {back : Netlist} → lines_of (text_of net) ≡ lines back → Fit net
  only_fit (fits f) p = f
  only_fit (breaks q n b) p = let l = broken b in clash (cc)

never_one : {net : Netlist} {q n : ℕ} → RecordFault net q n → ¬ (q ≡ 1)
never_one (bad_head h) = λ e. omega arith
never_one (bad_node v f l h) = λ e. omega arith
never_one (bad_edge e f l h) = λ e. omega arith

back_same : {net back : Netlist} → Fit net → lines_of (text_of net) ≡ lines back → Same net back
back_same {net} {back} f p = let q = text_lines net f in let e : cut net net.nodes net.edges ≡ back = cc in subst (Same net) e (cut_same net f)

pub record_faults : RecordFaults
record_faults net t q n = (told net t (outcome net), broken net t)

pub record_fact : RecordFact
record_fact net t =
    let o = outcome net in
    let again : Fit net → (back : Netlist) × (lines_of (text_of net) ≡ lines back) = λ f. (cut net net.nodes net.edges, text_lines net f) in
    (λ n p. never_one ((record_faults net t 1 n).0 p) refl, ((λ b. only_fit net t o b.1), again), λ back p. (back_same (only_fit net t o p) p, ((lines_fact (text_of net) back).0 p).1))

-- What is said of a record is said of the rows that are read back: they are the same netlist, so the rules hold of both or of neither (`judged_same`).
pub reads_record : (net : Netlist) → Fit net → {s : Said} → Judged net s → Reads (text_of net) s (kept s (cut net net.nodes net.edges))
reads_record net f j = judged (cut net net.nodes net.edges) (text_lines net f) (judged_same (fit_wired net f) (cut_same net f) j) refl

-- The rules say something of the record (`judge`), and what reading says is that.
pub record_judged : RecordJudged
record_judged net f s back r =
    let j = judge net (fit_wired net f) in
    subst (Judged net) (one_reading (text_of net) j.0 s _ back (reads_record net f j.1) r).0 j.1

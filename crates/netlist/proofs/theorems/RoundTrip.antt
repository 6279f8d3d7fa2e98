-- Demand 2: a text that reads is written as it was, and a netlist that is written reads as it was. Rows past the netlist's are read by nothing.
--   all_written         where writing refuses nothing, reading refused nothing, and the whole text was written: there is room
--   same_text           the text is that of the head, the nodes and the edges
--   round_trip_text, round_trip_netlist, record_rows_unread
use Prim.Native.Nat.{ℕ, ◌≤◌}
use mathlib.Core.Path.{◌≡◌, refl, sym, ap, ap₂, ◌∙◌, subst, subst₂}
use mathlib.Core.List.{◌++◌}
use lib.ListN.{length, take, drop}
use lib.Seq.{take-append_seam}
use Rattle.netlist.specs.declared.Netlist.{Netlist}
use Rattle.netlist.specs.Answer.{Said, value, holds}
use Rattle.netlist.specs.Order.{◌or_else◌, past, Stops, Needs}
use Rattle.netlist.specs.Read.{Reads}
use Rattle.netlist.specs.Write.{head_line, node_line, edge_line, joined, text_of}
use Rattle.netlist.specs.Theorems.{Clean, Same, RoundTripText, RoundTripNetlist, RecordRowsUnread}
use Rattle.netlist.proofs.Rows.{joined_same}
use Rattle.netlist.proofs.Order.{else_one, stops_one, stops_value, needs_one, needs_room, needs_value}
use Rattle.netlist.proofs.Account.{node_of, edge_of}
use Rattle.netlist.proofs.theorems.One.{one_reading}
use Rattle.netlist.proofs.theorems.Lines.{lines_fact}
use Rattle.netlist.proofs.theorems.Refusals.{judged_zero}
use Rattle.netlist.proofs.theorems.Record.{record_fact}
use Rattle.netlist.proofs.theorems.Sound.{reads_value, reads_text}

-- ── Read and written ────────────────────────────────────────────────────────────────────────

-- What was read has the text for its own (`lines_fact`), so it is checked as it was read, and there is room.
pub round_trip_text : RoundTripText
round_trip_text t net old s new r room w =
    let e : t ≡ text_of net = reads_text r in
    let c : w.checked ≡ value 0 = (one_reading t w.checked (value 0) w.same net (subst (λ x. Reads x w.checked w.same) (sym e) w.check) r).0 in
    let a : s ≡ value (length t) =
    else_one (stops_one w.checked) (needs_one _ _) s _ w.answer
    (rw (c, ← e) (past (λ x g. g) (needs_room room refl))) in
    (a, w.buffer ∙ rw (a, ← e))

-- ── Written and read ────────────────────────────────────────────────────────────────────────

pub all_written : (c : Said) {n m k : ℕ} → (Stops c or_else Needs n m) (value k) → (i : ℕ) × (c ≡ value i) × (k ≡ n) × (n ≤ m)
all_written c r = let a = stops_value c r in let b = needs_value a.2 in (a.0, a.1, b.0, b.1)

-- The bytes written are the record's text. It was checked by reading it; what that read is the same netlist (`record_fact`), and where the record's other rows
-- are 0 it is the record, as that text then reads as it (`lines_fact`).
pub round_trip_netlist : RoundTripNetlist
round_trip_netlist net old new n ty w =
    let text = text_of net in
    let back = w.same in
    let a = all_written w.checked w.answer in
    let r = subst (λ s. Reads text s back) a.1 w.check in
    let k = reads_value r in
    let z : a.0 ≡ 0 = judged_zero back k.1 in
    let e : text ≡ take n new = sym (take-append_seam text (drop (length text) old)) ∙ ap₂ take (sym a.2) (sym w.buffer) in
    let f = record_fact net ty in
    let again : Clean net → back ≡ net = λ c. let p = k.0 in let q = (lines_fact text net).1 (f.1.0 (back, k.0), c, refl) in cc in
    (back, subst₂ (λ x i. Reads x (value i) back) e z r, (f.2 back k.0).0, again)

-- ── Rows that are read by nothing ───────────────────────────────────────────────────────────

pub same_text : (net net' : Netlist) → Same net net' → text_of net ≡ text_of net'
unfolding text_of
same_text net net' s =
    let h = s.head in
    let head : head_line net ≡ head_line net' = rw (h.0, h.1, h.2, h.3) in
    let nodes = joined_same (node_line net) (node_line net') net.nodes (λ v l. let q = s.node v l in λ i. node_of (q.0 i, q.1 i)) in
    let edges = joined_same (edge_line net) (edge_line net') net.edges (λ e l. let q = s.edge e l in λ i. edge_of (q.0 i, q.1 i, q.2 i, q.3 i)) in
    ap₂ ◌++◌ (ap₂ ◌++◌ head (nodes ∙ ap (joined (node_line net')) h.2)) (edges ∙ ap (joined (edge_line net')) h.3)

pub record_rows_unread : RecordRowsUnread
record_rows_unread net net' s old a new w =
    let e = same_text net net' s in
    record {
      checked = w.checked;
      same = w.same;
      check = subst (λ x. Reads x w.checked w.same) e w.check;
      answer = subst (λ x. (Stops w.checked or_else Needs (length x) (length old)) a) e w.answer;
      buffer = w.buffer ∙ ap (λ x. holds a x old) e;
    }

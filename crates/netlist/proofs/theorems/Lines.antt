-- The lines of a text: they have no fault exactly where the text is that of a netlist whose lines keep the rules; and a fault exactly where, and as, the text has one.
--   text_lines          the text of a netlist that fits gives its rows back
--   cut_clean           and these are all of it, where its other rows are 0
--   fault_lines         a text with a fault is refused so
--   lines_fact, fault_fact, fault_place
use Prim.Native.Nat.{ℕ, suc, ◌-◌, ◌<◌}
use native.Mathlib.Omega.{arith}
use mathlib.Core.Path.{◌≡◌, refl, sym, ap, ◌∙◌, subst, subst₂}
use mathlib.Core.List.{List, [], ◌∷◌, ◌++◌, append-nil}
use Rattle.frame.specs.Frame.{number_at}
use Rattle.netlist.specs.declared.Netlist.{Netlist}
use Rattle.netlist.specs.Answer.{Said, at_line}
use Rattle.netlist.specs.Net.{net_with}
use Rattle.netlist.specs.Read.{line_of_node, line_of_edge, Lines, fault, lines, nothing_more, lines_of, nodes_from, edges_from}
use Rattle.netlist.specs.Write.{text_of}
use Rattle.netlist.specs.Theorems.{FitTo, Fit, Clean, to_node, to_edge, FaultAt, head_frame, head_range, node_frame, node_rule, edge_frame, edge_rule, surplus, LinesFact, FaultFact, FaultPlace}
use Rattle.netlist.specs.inner.Record.{cut}
use Rattle.netlist.proofs.Fits.{clash}
use Rattle.netlist.proofs.Rows.{rows_to_is}
use Rattle.netlist.proofs.Run.{run_nodes, run_edges, fit_rows, cut_fits}
use Rattle.netlist.proofs.Account.{Account, right, wrong, account}

-- ── No fault ────────────────────────────────────────────────────────────────────────────────

account_right : {t : List ℕ} {x : Lines} {net : Netlist} → Account t x → x ≡ lines net → Fit net × Clean net × (t ≡ text_of net)
account_right {t} {net = net} (right n f c p) q = let e : n ≡ net = cc in subst (λ k. Fit k × Clean k × (t ≡ text_of k)) e (f, c, p)
account_right (wrong q n f) p = clash (cc)

pub text_lines : (net : Netlist) → Fit net → lines_of (text_of net) ≡ lines (cut net net.nodes net.edges)
unfolding edges_from text_of
text_lines net f = ap lines_of (sym (append-nil (text_of net))) ∙ run_edges net net.edges 0 (omega arith) f []

cut_clean : (net : Netlist) → Fit net → Clean net → cut net net.nodes net.edges ≡ net
cut_clean net f c =
    let rows = fit_rows net f in
    let a = rows_to_is 512 net.nodes net.kind c.kinds.0 rows.0 (λ i l. (c.node i l).0) in
    let b = rows_to_is 512 net.nodes net.delay c.kinds.1 rows.0 (λ i l. (c.node i l).1) in
    let x = rows_to_is 1024 net.edges net.from c.ends.0 rows.1 (λ i l. (c.edge i l).0) in
    let y = rows_to_is 1024 net.edges net.to c.ends.1 rows.1 (λ i l. (c.edge i l).1) in
    let z = rows_to_is 1024 net.edges net.count c.ends.2 rows.1 (λ i l. (c.edge i l).2) in
    let s = rows_to_is 1024 net.edges net.start c.ends.3 rows.1 (λ i l. (c.edge i l).3) in
    λ i. net_with net.period net.derate net.nodes net.edges (a i) (b i) (x i) (y i) (z i) (s i)

-- From the text to the lines: all lines are read one by one (`run_edges`), and the record so filled is the netlist. Back: what a text's lines come to has an account
-- (`account`), and of one without a fault it says all this.
pub lines_fact : LinesFact
lines_fact t net = (account_right (account t), λ h. ap lines_of h.2 ∙ text_lines net h.0 ∙ ap lines (cut_clean net h.0 h.1))

-- ── A fault ─────────────────────────────────────────────────────────────────────────────────

account_wrong : {t : List ℕ} {x : Lines} {q n : ℕ} → Account t x → x ≡ fault (at_line q n) → FaultAt t q n
account_wrong (right n f c p) q = clash (cc)
account_wrong {t} {q = q} {n = n} (wrong q' n' f) p = let a : q' ≡ q = cc in let b : n' ≡ n = cc in subst₂ (FaultAt t) a b f

module _ (net : Netlist) (rest : List ℕ) where
  -- A node is to come, or an edge.
  at_node : (v : ℕ) → FitTo net v 0 → v < net.nodes → lines_of (to_node net v ++ rest) ≡ nodes_from (suc (net.nodes - suc v)) v (line_of_node net v) rest (cut net v 0)
  at_node v f l = run_nodes net v (suc (net.nodes - suc v)) (omega arith) f rest

  at_edge : (e : ℕ) → FitTo net net.nodes e → e < net.edges
      → lines_of (to_edge net e ++ rest) ≡ edges_from (suc (net.edges - suc e)) e (line_of_edge net e) rest (cut net net.nodes e)
  at_edge e f l = run_edges net e (suc (net.edges - suc e)) (omega arith) f rest

ends_more : (n : ℕ) (net : Netlist) (rest : List ℕ) → ¬ (rest ≡ []) → nothing_more rest n net ≡ fault (at_line 1 n)
ends_more n net [] h = absurd (h refl)
ends_more n net (c ∷ l) h = refl

pub fault_lines : {t : List ℕ} {q n : ℕ} → FaultAt t q n → lines_of t ≡ fault (at_line q n)
unfolding lines_of nodes_from edges_from text_of
fault_lines (head_frame p) = rw p
fault_lines (head_range bs rest p h) = rw (p, h)
fault_lines (node_frame net v rest f l q p) = ap lines_of q ∙ at_node net rest v f l ∙ rw p
fault_lines (node_rule net v rest bs more f l q p h) = ap lines_of q ∙ at_node net rest v f l ∙ rw (p, h)
fault_lines (edge_frame net e rest f l q p) = ap lines_of q ∙ at_edge net rest e f l ∙ rw p
fault_lines (edge_rule net e rest bs more f l q p h) =
    let no = cut_fits net f e (number_at 0 2 bs) (number_at 2 2 bs) (number_at 4 1 bs) (number_at 5 4 bs) ∙ h in
    ap lines_of q ∙ at_edge net rest e f l ∙ rw (p, no)
fault_lines (surplus net rest f q p) = ap lines_of q ∙ run_edges net net.edges 0 (omega arith) f rest ∙ ends_more (line_of_edge net net.edges) (cut net net.nodes net.edges) rest p

-- The same: the lines before the fault are read one by one, then comes the fault; and back by the account.
pub fault_fact : FaultFact
fault_fact t q n = (account_wrong (account t), fault_lines)

account_place : {t : List ℕ} {x : Lines} {s : Said} → Account t x → x ≡ fault s → (q : ℕ) × (n : ℕ) × (s ≡ at_line q n) × FaultAt t q n
account_place (right n f c p) e = clash (cc)
account_place (wrong q n f) e = (q, n, cc, f)

pub fault_place : FaultPlace
fault_place t s e = account_place (account t) e

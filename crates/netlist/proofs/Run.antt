-- Reading what was written: line by line, each line that keeps its rules puts its row into the record.
--   head_step, node_step, edge_step      one line
--   fit_rows                             a netlist that fits has no more nodes and edges than a record has rows
--   fit_wired                            and its edges join nodes
--   fit_less                             fewer lines keep their rules too
--   cut_fits                             an edge that keeps its rules keeps them in the record cut off
--   run_nodes, run_edges                 the lines before a node's, and before an edge's
use Prim.Native.Nat.{ℕ, zero, suc, ◌+◌, ◌^◌, ◌<◌, ◌≤◌}
use native.Mathlib.Omega.{arith}
use native.Mathlib.Nat.{pow-le-pow_right, zero-lt-suc}
use mathlib.Core.Path.{◌≡◌, ap, ap₂, ◌∙◌}
use mathlib.Core.Bool.{true}
use mathlib.Core.List.{List, ◌∷◌, ◌++◌, append_assoc, append-nil}
use lib.ListN.{get_or}
use Rattle.frame.specs.Frame.{line_of}
use Rattle.theory.specs.Graph.{Wired}
use Rattle.netlist.specs.declared.Netlist.{Netlist}
use Rattle.netlist.specs.Net.{with_head, with_node, with_edge, graph_of}
use Rattle.rules.specs.Rules.{head_fits, node_fits, edge_fits}
use Rattle.netlist.specs.Read.{first_line, line_of_node, line_of_edge, lines_of, nodes_from, edges_from}
use Rattle.netlist.specs.Write.{node_line, edge_line, joined}
use Rattle.netlist.specs.Theorems.{FitTo, Fit, to_node, to_edge}
use Rattle.netlist.specs.inner.Record.{rows_to, cut}
use Rattle.netlist.proofs.Rows.{rows_to_in}
use Rattle.netlist.proofs.Fits.{head_fits_means, node_fits_means, edge_fits_means, edge_fits_same}
use Rattle.netlist.proofs.Fields.{head_fields, edge_fields, head_bytes, edge_bytes, fields_read, fields_frame, node_bytes, node_numbers, node_frame}

-- ── One line ────────────────────────────────────────────────────────────────────────────────

head_step : (p d n e : ℕ) (rest : List ℕ) → head_fits p d n e ≡ true → lines_of (line_of (1 ∷ head_bytes p d n e) ++ rest) ≡ nodes_from n 0 (first_line (with_head p d n e)) rest (with_head p d n e)
unfolding lines_of
head_step p d n e rest h =
    let f = head_fits_means p d n e h in
    let x = fields_read (head_fields p d n e) (omega arith, (omega arith, (omega arith, (omega arith, tt)))) in
    rw (fields_frame 1 (head_fields p d n e) rest (omega arith), x.0, x.1.0, x.1.1.0, x.1.1.1.0, h)

node_step : (m i n : ℕ) (net : Netlist) (k d : ℕ) (rest : List ℕ) → node_fits k d ≡ true
    → nodes_from (suc m) i n (line_of (2 ∷ node_bytes k d) ++ rest) net ≡ nodes_from m (suc i) (suc n) rest (with_node net i k d)
unfolding nodes_from
node_step m i n net k d rest h =
    let f = node_fits_means k d h in
    let x = node_numbers k d in
    rw (node_frame k d (omega arith) (omega arith) rest, x.0, x.1, h)

edge_step : (m e n : ℕ) (net : Netlist) (u v w s : ℕ) (rest : List ℕ) → net.nodes ≤ 512 → edge_fits net.nodes (graph_of net).kind u v w s ≡ true
    → edges_from (suc m) e n (line_of (3 ∷ edge_bytes u v w s) ++ rest) net ≡ edges_from m (suc e) (suc n) rest (with_edge net e u v w s)
unfolding edges_from
edge_step m e n net u v w s rest few h =
    let f = edge_fits_means net.nodes (graph_of net).kind u v w s h in
    let l : 2 ^ w ≤ 2 ^ 32 = pow-le-pow_right (zero-lt-suc 1) f.2 in
    let x = fields_read (edge_fields u v w s) (omega arith, (omega arith, (omega arith, (omega arith, tt)))) in
    rw (fields_frame 3 (edge_fields u v w s) rest (omega arith), x.0, x.1.0, x.1.1.0, x.1.1.1.0, h)

-- ── All lines so far ────────────────────────────────────────────────────────────────────────

pub fit_less : {net : Netlist} {n m : ℕ} → FitTo net n m → (n' m' : ℕ) → n' ≤ n → m' ≤ m → FitTo net n' m'
fit_less f n' m' h k = record { head = f.head; node = λ v l. f.node v (omega arith); edge = λ e l. f.edge e (omega arith) }

module _ (net : Netlist) where
  pub fit_rows : {n m : ℕ} → FitTo net n m → (net.nodes ≤ 512) × (net.edges ≤ 1024)
  fit_rows f = let h = head_fits_means net.period net.derate net.nodes net.edges f.head in (h.2, h.3)

  pub fit_wired : Fit net → Wired (graph_of net)
  fit_wired f = record { src_in = λ e h. (row e h).0; dst_in = λ e h. (row e h).1 }
    where
      row : (e : ℕ) → e < net.edges → (get_or net.from e 0 < net.nodes) × (get_or net.to e 0 < net.nodes)
      row e h =
          let r = edge_fits_means net.nodes (graph_of net).kind (get_or net.from e 0) (get_or net.to e 0) (get_or net.count e 0) (get_or net.start e 0) (f.edge e h) in
          (r.0, r.1)

  -- An edge's rules look at the kinds of the nodes alone, and these are cut off nowhere.
  pub cut_fits : {n m : ℕ} → FitTo net n m → (e u v w s : ℕ)
      → edge_fits net.nodes (graph_of (cut net net.nodes e)).kind u v w s ≡ edge_fits net.nodes (graph_of net).kind u v w s
  cut_fits f e = edge_fits_same net.nodes (graph_of (cut net net.nodes e)).kind (graph_of net).kind
      (rows_to_in 512 (λ i. get_or net.kind i 0) net.nodes (fit_rows f).0)

  -- By the lines in turn: a written line reads as the numbers written, these keep its rule, and their row is put where the cut record has it. Here m nodes are left.
  pub run_nodes : (v m : ℕ) → m + v ≡ net.nodes → FitTo net v 0 → (rest : List ℕ) → lines_of (to_node net v ++ rest) ≡ nodes_from m v (line_of_node net v) rest (cut net v 0)
  unfolding joined rows_to with_head
  run_nodes zero m q f rest =
      let e : m ≡ net.nodes = omega arith in
      rw (append-nil, e) (head_step net.period net.derate net.nodes net.edges rest f.head)
  run_nodes (suc v) m q f rest =
      let k = get_or net.kind v 0 in
      let d = get_or net.delay v 0 in
      let e : suc (line_of_node net v) ≡ line_of_node net (suc v) = omega arith in
      ap lines_of (simp append_assoc) ∙ run_nodes v (suc m) (omega arith) (fit_less f v 0 (omega arith) (omega arith)) (node_line net v ++ rest)
      ∙ node_step m v (line_of_node net v) (cut net v 0) k d rest (f.node v (omega arith)) ∙ ap (λ n. nodes_from m (suc v) n rest (cut net (suc v) 0)) e

  -- The same with all nodes read and m edges left.
  pub run_edges : (e m : ℕ) → m + e ≡ net.edges → FitTo net net.nodes e → (rest : List ℕ)
      → lines_of (to_edge net e ++ rest) ≡ edges_from m e (line_of_edge net e) rest (cut net net.nodes e)
  unfolding joined rows_to nodes_from
  run_edges zero m q f rest =
      let a : net.edges ≡ m = omega arith in
      let b : line_of_node net net.nodes ≡ line_of_edge net 0 = omega arith in
      ap lines_of (simp append-nil) ∙ run_nodes net.nodes 0 (omega arith) f rest ∙ ap₂ (λ k n. edges_from k 0 n rest (cut net net.nodes 0)) a b
  run_edges (suc e) m q f rest =
      let u = get_or net.from e 0 in
      let v = get_or net.to e 0 in
      let w = get_or net.count e 0 in
      let s = get_or net.start e 0 in
      let now = cut net net.nodes e in
      let a : suc (line_of_edge net e) ≡ line_of_edge net (suc e) = omega arith in
      ap lines_of (simp append_assoc) ∙ run_edges e (suc m) (omega arith) (fit_less f net.nodes e (omega arith) (omega arith)) (edge_line net e ++ rest)
      ∙ edge_step m e (line_of_edge net e) now u v w s rest (fit_rows f).0 (cut_fits f e u v w s ∙ f.edge e (omega arith)) ∙ ap (λ n. edges_from m (suc e) n rest (cut net net.nodes (suc e))) a

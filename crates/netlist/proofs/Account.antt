-- What the lines of a text come to: each line that is read puts a row into the record, and the text so far is the text of the record so far.
--   Account t x         why the lines of the text t come to x
--   node_row, edge_row  a row of a record, over its columns
--   node_of, edge_of    the line of a row
--   node-.., edge-..    what one more row changes, and what it keeps
--   turn                one line
--   account             every text has an account
use Prim.Native.Nat.{ℕ, zero, suc, ◌+◌, ◌<◌}
use native.Mathlib.Omega.{arith}
use mathlib.Core.Path.{◌≡◌, refl, sym, ap, ◌∙◌, subst}
use mathlib.Core.Logic.{◌≢◌}
use mathlib.Core.Bool.{Bool, true, false, cond}
use mathlib.Core.List.{List, [], ◌∷◌, ◌++◌, append_assoc, append-nil}
use lib.ListN.{get_or, length-set}
use lib.Seq.{get_or-set_same, get_or-set_other}
use borrow.Author.Count.{below_more}
use Rattle.frame.specs.Frame.{Line, bad, line, on_line, frame_at, number_at, line_of}
use Rattle.frame.proofs.Laws.{frame_rest}
use Rattle.netlist.specs.declared.Netlist.{Netlist}
use Rattle.netlist.specs.Answer.{at_line}
use Rattle.netlist.specs.Net.{with_head, with_node, with_edge, graph_of}
use Rattle.rules.specs.Rules.{node_fits, edge_fits}
use Rattle.netlist.specs.Read.{line_of_node, line_of_edge, Lines, fault, lines, nothing_more, lines_of, nodes_from, edges_from}
use Rattle.netlist.specs.Write.{node_line, edge_line, joined, text_of}
use Rattle.netlist.specs.Theorems.{FitTo, Fit, CleanTo, Clean, to_node, to_edge, FaultAt, head_frame, head_range, node_frame, node_rule, edge_frame, edge_rule, surplus}
use Rattle.netlist.proofs.Rows.{length_zeros, zeros_at, set_past, joined_same}
use Rattle.netlist.proofs.Fits.{clash}
use Rattle.netlist.proofs.Run.{fit_rows}
use Rattle.netlist.proofs.Fields.{head_fields, edge_fields, head_bytes, edge_bytes, fields_bytes, node_bytes, node_bytes_read}

pub data Account (t : List ℕ) : Lines → Type 0 where
  right : (net : Netlist) → Fit net → Clean net → t ≡ text_of net → Account t (lines net)
  wrong : (q n : ℕ) → FaultAt t q n → Account t (fault (at_line q n))

-- ── Rows ────────────────────────────────────────────────────────────────────────────────────

abbrev NodeRow : Type 0
NodeRow = ℕ × ℕ

abbrev node_row : Netlist → ℕ → NodeRow
node_row net v = (get_or net.kind v 0, get_or net.delay v 0)

abbrev EdgeRow : Type 0
EdgeRow = ℕ × ℕ × ℕ × ℕ

abbrev edge_row : Netlist → ℕ → EdgeRow
edge_row net e = (get_or net.from e 0, get_or net.to e 0, get_or net.count e 0, get_or net.start e 0)

abbrev pub node_of : NodeRow → List ℕ
node_of r = line_of (2 ∷ node_bytes r.0 r.1)

abbrev pub edge_of : EdgeRow → List ℕ
edge_of r = line_of (3 ∷ edge_bytes r.0 r.1 r.2 r.3)

abbrev NodeFits : NodeRow → Type 0
NodeFits r = node_fits r.0 r.1 ≡ true

abbrev EdgeFits : ℕ → (ℕ → ℕ) → EdgeRow → Type 0
EdgeFits nodes kind r = edge_fits nodes kind r.0 r.1 r.2 r.3 ≡ true

-- ── One more node ───────────────────────────────────────────────────────────────────────────

module _ (net : Netlist) (i k d : ℕ) (f : FitTo net i 0) (c : CleanTo net i 0) (few : i < net.nodes) where
  node_put : node_row (with_node net i k d) i ≡ (k, d)
  node_put =
      let h = fit_rows net f in
      let a = get_or-set_same net.kind i k 0 (omega (arith, c.kinds)) in
      let b = get_or-set_same net.delay i d 0 (omega (arith, c.kinds)) in
      λ j. (a j, b j)

  node_kept : (v : ℕ) → v ≢ i → node_row (with_node net i k d) v ≡ node_row net v
  node_kept v n = let a = get_or-set_other net.kind i v k 0 n in let b = get_or-set_other net.delay i v d 0 n in λ j. (a j, b j)

  node_fit : node_fits k d ≡ true → FitTo (with_node net i k d) (suc i) 0
  node_fit h = record {
    head = f.head;
    node = λ v l. below_more (λ v. NodeFits (node_row (with_node net i k d) v)) i
        (λ v l. subst NodeFits (sym (node_kept v (omega arith))) (f.node v l)) (subst NodeFits (sym node_put) h) v (omega arith);
    edge = λ e l. absurd (omega arith);
  }

  node_clean : CleanTo (with_node net i k d) (suc i) 0
  node_clean = record {
    kinds = (length-set net.kind i k ∙ c.kinds.0, length-set net.delay i d ∙ c.kinds.1);
    ends = c.ends;
    node = λ v l. (set_past net.kind i k (λ j m. (c.node j m).0) v l, set_past net.delay i d (λ j m. (c.node j m).1) v l);
    edge = c.edge;
  }

  node_text : to_node (with_node net i k d) (suc i) ≡ to_node net i ++ node_of (k, d)
  unfolding joined
  node_text =
      rw (ap node_of node_put, joined_same (node_line (with_node net i k d)) (node_line net) i (λ v l. ap node_of (node_kept v (omega arith)))) (simp append_assoc)

-- ── One more edge ───────────────────────────────────────────────────────────────────────────

module _ (net : Netlist) (i u v w s : ℕ) (f : FitTo net net.nodes i) (c : CleanTo net net.nodes i) (few : i < net.edges) where
  edge_put : edge_row (with_edge net i u v w s) i ≡ (u, v, w, s)
  edge_put =
      let h = fit_rows net f in
      let x = get_or-set_same net.from i u 0 (omega (arith, c.ends)) in
      let y = get_or-set_same net.to i v 0 (omega (arith, c.ends)) in
      let z = get_or-set_same net.count i w 0 (omega (arith, c.ends)) in
      let t = get_or-set_same net.start i s 0 (omega (arith, c.ends)) in
      λ j. (x j, y j, z j, t j)

  edge_kept : (e : ℕ) → e ≢ i → edge_row (with_edge net i u v w s) e ≡ edge_row net e
  edge_kept e n =
      let x = get_or-set_other net.from i e u 0 n in
      let y = get_or-set_other net.to i e v 0 n in
      let z = get_or-set_other net.count i e w 0 n in
      let t = get_or-set_other net.start i e s 0 n in
      λ j. (x j, y j, z j, t j)

  edge_fit : edge_fits net.nodes (graph_of net).kind u v w s ≡ true → FitTo (with_edge net i u v w s) net.nodes (suc i)
  edge_fit h = record {
    head = f.head;
    node = f.node;
    edge = λ e l. below_more (λ e. EdgeFits net.nodes (graph_of net).kind (edge_row (with_edge net i u v w s) e)) i
        (λ e l. subst (EdgeFits net.nodes (graph_of net).kind) (sym (edge_kept e (omega arith))) (f.edge e l))
        (subst (EdgeFits net.nodes (graph_of net).kind) (sym edge_put) h) e (omega arith);
  }

  edge_clean : CleanTo (with_edge net i u v w s) net.nodes (suc i)
  edge_clean = record {
    kinds = c.kinds;
    ends = (length-set net.from i u ∙ c.ends.0, length-set net.to i v ∙ c.ends.1, length-set net.count i w ∙ c.ends.2, length-set net.start i s ∙ c.ends.3);
    node = c.node;
    edge = λ e l. (
      set_past net.from i u (λ j m. (c.edge j m).0) e l,
      set_past net.to i v (λ j m. (c.edge j m).1) e l,
      set_past net.count i w (λ j m. (c.edge j m).2) e l,
      set_past net.start i s (λ j m. (c.edge j m).3) e l,
    );
  }

  edge_text : to_edge (with_edge net i u v w s) (suc i) ≡ to_edge net i ++ edge_of (u, v, w, s)
  unfolding joined
  edge_text =
      rw (ap edge_of edge_put, joined_same (edge_line (with_edge net i u v w s)) (edge_line net) i (λ e l. ap edge_of (edge_kept e (omega arith)))) (simp append_assoc)

-- ── The lines in turn ───────────────────────────────────────────────────────────────────────

-- One line: bad, or against its rule, or good.
turn : (t l : List ℕ) (k m q n : ℕ) (test : List ℕ → Bool) (next : List ℕ → List ℕ → Lines)
    → (frame_at k m l ≡ bad → FaultAt t 1 n)
    → ((bs rest : List ℕ) → frame_at k m l ≡ line bs rest → test bs ≡ false → FaultAt t q n)
    → ((bs rest : List ℕ) → frame_at k m l ≡ line bs rest → test bs ≡ true → Account t (next bs rest))
    → Account t (on_line (frame_at k m l) (fault (at_line 1 n)) λ bs rest. cond (test bs) (next bs rest) (fault (at_line q n)))
turn t l k m q n test next none broken good = by_frame (frame_at k m l) refl
  where
    by_rule : (bs rest : List ℕ) → frame_at k m l ≡ line bs rest → (b : Bool) → test bs ≡ b → Account t (cond b (next bs rest) (fault (at_line q n)))
    by_rule bs rest a true b = good bs rest a b
    by_rule bs rest a false b = wrong q n (broken bs rest a b)

    by_frame : (x : Line) → frame_at k m l ≡ x → Account t (on_line x (fault (at_line 1 n)) λ bs rest. cond (test bs) (next bs rest) (fault (at_line q n)))
    by_frame bad a = wrong 1 n (none a)
    by_frame (line bs rest) a = by_rule bs rest a (test bs) refl

-- A line that is read is the line of what stands in it.
read_line : (k n : ℕ) (t before l bs bs' rest : List ℕ) → frame_at k n l ≡ line bs rest → bs' ≡ bs → t ≡ before ++ l → t ≡ before ++ line_of (k ∷ bs') ++ rest
read_line k n t before l bs bs' rest p q h = h ∙ ap (λ x. before ++ x) (frame_rest k n l bs rest p).1.1 ∙ rw q (simp append_assoc)

-- No edge is left.
at_end : (t l : List ℕ) (net : Netlist) → Fit net → Clean net → t ≡ to_edge net net.edges ++ l
    → Account t (nothing_more l (line_of_edge net net.edges) net)
unfolding text_of
at_end t [] net f c p = right net f c (p ∙ append-nil _)
at_end t (x ∷ l) net f c p = wrong 1 (line_of_edge net net.edges) (surplus net (x ∷ l) f p (λ q. clash (cc)))

-- m edges are left.
at_edges : (t : List ℕ) (m e : ℕ) (l : List ℕ) (net : Netlist) → m + e ≡ net.edges → FitTo net net.nodes e → CleanTo net net.nodes e → t ≡ to_edge net e ++ l
    → Account t (edges_from m e (line_of_edge net e) l net)
unfolding edges_from
at_edges t zero e l net q f c p =
    let d : e ≡ net.edges = omega arith in
    subst (λ k. Account t (nothing_more l (line_of_edge net k) net)) (sym d)
    (at_end t l net (subst (FitTo net net.nodes) d f) (subst (CleanTo net net.nodes) d c) (p ∙ ap (λ k. to_edge net k ++ l) d))
at_edges t (suc m) e l net q f c p =
    turn t l 3 9 4 (line_of_edge net e) _ _ (λ a. edge_frame net e l f (omega arith) p a) (λ bs rest a b. edge_rule net e l bs rest f (omega arith) p a b)
    (λ bs rest a b.
    let u = number_at 0 2 bs in
    let v = number_at 2 2 bs in
    let w = number_at 4 1 bs in
    let s = number_at 5 4 bs in
    let few : e < net.edges = omega arith in
    let r = frame_rest 3 9 l bs rest a in
    let n : line_of_edge net (suc e) ≡ suc (line_of_edge net e) = omega arith in
    let text = read_line 3 9 t (to_edge net e) l bs (edge_bytes u v w s) rest a (fields_bytes (edge_fields u v w s) bs (sym r.0) r.1.0 (refl, (refl, (refl, (refl, tt))))) p in
    subst (λ k. Account t (edges_from m (suc e) k rest (with_edge net e u v w s))) n
    (at_edges t m (suc e) rest (with_edge net e u v w s) (omega arith) (edge_fit net e u v w s f c few b) (edge_clean net e u v w s f c few)
    (text ∙ ap (λ x. x ++ rest) (sym (edge_text net e u v w s f c few)))))

-- m nodes are left, and all edges.
at_nodes : (t : List ℕ) (m i : ℕ) (l : List ℕ) (net : Netlist) → m + i ≡ net.nodes → FitTo net i 0 → CleanTo net i 0 → t ≡ to_node net i ++ l
    → Account t (nodes_from m i (line_of_node net i) l net)
unfolding nodes_from joined
at_nodes t zero i l net q f c p =
    let d : i ≡ net.nodes = omega arith in
    let n : line_of_edge net 0 ≡ line_of_node net i = omega arith in
    subst (λ k. Account t (edges_from net.edges 0 k l net)) n
    (at_edges t net.edges 0 l net (omega arith) (subst (λ k. FitTo net k 0) d f) (subst (λ k. CleanTo net k 0) d c)
    (p ∙ ap (λ k. to_node net k ++ l) d ∙ simp append-nil))
at_nodes t (suc m) i l net q f c p =
    turn t l 2 2 3 (line_of_node net i) _ _ (λ a. node_frame net i l f (omega arith) p a) (λ bs rest a b. node_rule net i l bs rest f (omega arith) p a b)
    (λ bs rest a b.
    let k = number_at 0 1 bs in
    let d = number_at 1 1 bs in
    let few : i < net.nodes = omega arith in
    let n : line_of_node net (suc i) ≡ suc (line_of_node net i) = omega arith in
    let text = read_line 2 2 t (to_node net i) l bs (node_bytes k d) rest a (node_bytes_read bs (frame_rest 2 2 l bs rest a).0) p in
    subst (λ k'. Account t (nodes_from m (suc i) k' rest (with_node net i k d))) n
    (at_nodes t m (suc i) rest (with_node net i k d) (omega arith) (node_fit net i k d f c few b) (node_clean net i k d f c few)
    (text ∙ ap (λ x. x ++ rest) (sym (node_text net i k d f c few)))))

head_clean : (p d n e : ℕ) → CleanTo (with_head p d n e) 0 0
unfolding with_head
head_clean p d n e = record {
  kinds = (length_zeros 512, length_zeros 512);
  ends = (length_zeros 1024, length_zeros 1024, length_zeros 1024, length_zeros 1024);
  node = λ v l. (zeros_at 512 v, zeros_at 512 v);
  edge = λ v l. (zeros_at 1024 v, zeros_at 1024 v, zeros_at 1024 v, zeros_at 1024 v);
}

-- By the lines in turn. What holds before each: the rows so far keep the rules, the others are 0, and the text so far is theirs.
-- A line that is read is the line of the numbers taken from it, so its row keeps all that; a line that is bad or breaks its rule is the fault that the text has.
pub account : (t : List ℕ) → Account t (lines_of t)
unfolding lines_of with_head joined
account t =
    turn t t 1 7 2 1 _ _ head_frame head_range
    (λ bs rest a b.
    let p = number_at 0 2 bs in
    let d = number_at 2 1 bs in
    let n = number_at 3 2 bs in
    let e = number_at 5 2 bs in
    let r = frame_rest 1 7 t bs rest a in
    at_nodes t n 0 rest (with_head p d n e) (omega arith)
    (record { head = b; node = λ v l. absurd (omega arith); edge = λ v l. absurd (omega arith) })
    (head_clean p d n e)
    (read_line 1 7 t [] t bs (head_bytes p d n e) rest a (fields_bytes (head_fields p d n e) bs (sym r.0) r.1.0 (refl, (refl, (refl, (refl, tt))))) refl ∙ simp append-nil))

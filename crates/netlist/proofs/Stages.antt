-- Reading a line, in each way that it can go: no line there; a line whose numbers break its rule; a line that fills a row.
--   Opened, opened, closed         a line decoded by code: its bytes, its numbers and where it ends; or that there is none
--   head_.., node_.., edge_..      what the lines from there on come to, in each of the three ways
--   ends_surplus        what stands behind the last line
use Prim.Native.Nat.{ℕ, suc, ◌+◌, ◌≤◌, ◌<◌}
use mathlib.Core.Path.{◌≡◌, refl, ap, ap₂, sym, ◌∙◌}
use mathlib.Core.Bool.{true, false}
use mathlib.Core.List.{List}
use native.Mathlib.Omega.{arith}
use native.Mathlib.Numerals.{add-one}
use lib.Seq.{drop-cons}
use lib.ListN.{length, get_or, drop}
use Rattle.std.specs.Prelude.{None, Some}
use Rattle.frame.specs.Frame.{Line, bad, line, frame_at, number_at}
use Rattle.frame.specs.inner.Decoded.{decoded, framed}
use Rattle.frame.proofs.Laws.{frame_rest, frame_drop}
use Rattle.netlist.proofs.Fits.{clash}
use Rattle.netlist.specs.declared.Netlist.{Netlist}
use Rattle.netlist.specs.Answer.{at_line}
use Rattle.netlist.specs.Net.{with_head, with_node, with_edge, graph_of}
use Rattle.rules.specs.Rules.{head_fits, node_fits, edge_fits}
use Rattle.netlist.specs.Read.{first_line, fault, nothing_more, edges_from, nodes_from, lines_of}
use Rattle.netlist.proofs.Fields.{line_size, Read, head_fields, edge_fields}
use Rattle.netlist.proofs.Numbers.{pair_at, quad_at, number_one, number_two, number_four}

-- The line of kind k with n more bytes at `at`, as code has decoded it into the bytes xs.
pub record Opened (k n at : ℕ) (t xs : List ℕ) : Type 0 where
  pub reads : frame_at k n (drop at t) ≡ line xs (drop (at + line_size n) t)
  pub wide : length xs ≡ n
  pub room : at + line_size n ≤ length t

module _ (k n at : ℕ) (t : List ℕ) where
  pub closed : None ≡ framed k n (drop at t) → frame_at k n (drop at t) ≡ bad
  closed e = go (frame_at k n (drop at t)) e
    where
      go : (l : Line) → None ≡ decoded l → l ≡ bad
      go bad e = λ i. bad
      go (line bs rest) e = clash (cc)

  pub opened : {xs : List ℕ} → Some xs ≡ framed k n (drop at t) → Opened k n at t xs
  opened {xs} e = go (frame_at k n (drop at t)) refl e
    where
      go : (l : Line) → frame_at k n (drop at t) ≡ l → Some xs ≡ decoded l → Opened k n at t xs
      go bad p e = clash (cc)
      go (line bs rest) p e =
          let q : bs ≡ xs = cc in
          let d = frame_drop k n at t bs rest p in
          record { reads = p ∙ ap₂ line q d.0; wide = ap length (sym q) ∙ (frame_rest k n (drop at t) bs rest p).0; room = d.1 }

-- ── The head ────────────────────────────────────────────────────────────────────────────────

pub head_none : (t : List ℕ) → frame_at 1 7 t ≡ bad → lines_of t ≡ fault (at_line 1 1)
unfolding lines_of
head_none t q = rw q

module _ (t xs : List ℕ) (o : Opened 1 7 0 t xs) (p d n m : ℕ)
    (hp : p ≡ pair_at xs 0) (hd : d ≡ get_or xs 2 0) (hn : n ≡ pair_at xs 3) (hm : m ≡ pair_at xs 5) where
  head_numbers : Read 0 (head_fields p d n m) xs
  head_numbers =
      let w = o.wide in
      (number_two xs 0 (omega arith) ∙ sym hp, (number_one xs 2 (omega arith) ∙ sym hd, (number_two xs 3 (omega arith) ∙ sym hn, (number_two xs 5 (omega arith) ∙ sym hm, tt))))

  pub head_wrong : head_fits p d n m ≡ false → lines_of t ≡ fault (at_line 2 1)
  unfolding lines_of
  head_wrong q = let h = head_numbers in rw (o.reads, h.0, h.1.0, h.1.1.0, h.1.1.1.0, q)

  pub head_good : head_fits p d n m ≡ true → lines_of t ≡ nodes_from n 0 (first_line (with_head p d n m)) (drop (line_size 7) t) (with_head p d n m)
  unfolding lines_of
  head_good q = let h = head_numbers in rw (o.reads, h.0, h.1.0, h.1.1.0, h.1.1.1.0, q)

-- ── A node ──────────────────────────────────────────────────────────────────────────────────

-- Node i of m more, on line b.
module _ (t : List ℕ) (at m i b : ℕ) (net : Netlist) where
  pub node_none : frame_at 2 2 (drop at t) ≡ bad → nodes_from (suc m) i b (drop at t) net ≡ fault (at_line 1 b)
  unfolding nodes_from
  node_none q = rw q

  module _ (xs : List ℕ) (o : Opened 2 2 at t xs) where
    node_numbers : (number_at 0 1 xs ≡ get_or xs 0 0) × (number_at 1 1 xs ≡ get_or xs 1 0)
    node_numbers = let w = o.wide in (number_one xs 0 (omega arith), number_one xs 1 (omega arith))

    pub node_wrong : node_fits (get_or xs 0 0) (get_or xs 1 0) ≡ false → nodes_from (suc m) i b (drop at t) net ≡ fault (at_line 3 b)
    unfolding nodes_from
    node_wrong q = let h = node_numbers in rw (o.reads, h.0, h.1, q)

    pub node_good : node_fits (get_or xs 0 0) (get_or xs 1 0) ≡ true
        → nodes_from (suc m) i b (drop at t) net ≡ nodes_from m (i + 1) (b + 1) (drop (at + line_size 2) t) (with_node net i (get_or xs 0 0) (get_or xs 1 0))
    unfolding nodes_from
    node_good q = let h = node_numbers in rw (o.reads, h.0, h.1, q, add-one i, add-one b)

-- ── An edge ─────────────────────────────────────────────────────────────────────────────────

-- Edge e of m more, on line b.
module _ (t : List ℕ) (at m e b : ℕ) (net : Netlist) where
  pub edge_none : frame_at 3 9 (drop at t) ≡ bad → edges_from (suc m) e b (drop at t) net ≡ fault (at_line 1 b)
  unfolding edges_from
  edge_none q = rw q

  module _ (xs : List ℕ) (o : Opened 3 9 at t xs) (u v w s : ℕ)
      (hu : u ≡ pair_at xs 0) (hv : v ≡ pair_at xs 2) (hw : w ≡ get_or xs 4 0) (hs : s ≡ quad_at xs 5) where
    edge_numbers : Read 0 (edge_fields u v w s) xs
    edge_numbers =
        let l = o.wide in
        (number_two xs 0 (omega arith) ∙ sym hu, (number_two xs 2 (omega arith) ∙ sym hv, (number_one xs 4 (omega arith) ∙ sym hw, (number_four xs 5 (omega arith) ∙ sym hs, tt))))

    pub edge_wrong : edge_fits net.nodes (graph_of net).kind u v w s ≡ false → edges_from (suc m) e b (drop at t) net ≡ fault (at_line 4 b)
    unfolding edges_from
    edge_wrong q = let h = edge_numbers in rw (o.reads, h.0, h.1.0, h.1.1.0, h.1.1.1.0, q)

    pub edge_good : edge_fits net.nodes (graph_of net).kind u v w s ≡ true
        → edges_from (suc m) e b (drop at t) net ≡ edges_from m (e + 1) (b + 1) (drop (at + line_size 9) t) (with_edge net e u v w s)
    unfolding edges_from
    edge_good q = let h = edge_numbers in rw (o.reads, h.0, h.1.0, h.1.1.0, h.1.1.1.0, q, add-one e, add-one b)

-- ── The ends of a stage ─────────────────────────────────────────────────────────────────────

module _ (t : List ℕ) (at n : ℕ) (net : Netlist) where
  pub ends_surplus : at < length t → nothing_more (drop at t) n net ≡ fault (at_line 1 n)
  ends_surplus h = rw (drop-cons t at 0 h)

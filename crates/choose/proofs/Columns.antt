-- The columns that the functions of `cells` leave are the program of the moved netlist.
--   celled              the numbered cells, as what is due of them asks for
--   compiled            specs/Cells' `Compiled`
use Prim.Native.Nat.{ℕ, suc, ◌+◌, ◌*◌, ◌-◌, ◌/◌, ◌%◌, ◌≤◌, ◌<◌}
use native.Mathlib.Omega.{arith}
use native.Mathlib.Numerals.{add-one}
use mathlib.Core.Path.{◌≡◌, sym, ap, ap₂, ◌∙◌}
use mathlib.Core.Bool.{cond}
use mathlib.Core.Logic.{inl}
use mathlib.Core.List.{List}
use lib.Dec.{ltb}
use lib.ListN.{length, take, drop, replicate, length-replicate}
use Rattle.theory.specs.Clock.{gather}
use Rattle.theory.specs.Move.{sum}
use Rattle.theory.proofs.clocks.Seen.{gather_same}
use Rattle.graph.specs.Columns.{at}
use Rattle.graph.specs.inner.Sort.{group, Sorts}
use Rattle.graph.proofs.ByNode.{sorts_width, sorts_seen}
use Rattle.netlist.specs.declared.Netlist.{Netlist}
use Rattle.netlist.proofs.Run.{fit_wired}
use Rattle.search.specs.inner.Program.{operands_of}
use Rattle.choose.specs.inner.Cells.{source, Compiled}
use Rattle.moves.specs.inner.Labels.{lags_of, Labelled, Counts, Bases}
use Rattle.choose.specs.inner.Numbers.{lag_at, LagsBelow}
use Rattle.choose.specs.inner.Wires.{Placed}
use Rattle.choose.specs.inner.Sources.{source_at, width_at, Operands}
use Rattle.choose.specs.inner.Dues.{cell_at, Celled, Dues}
use Rattle.moves.proofs.Labels.{low_edges}
use Rattle.theory.proofs.numbers.Sums.{sum_more, sum_grows}

pub celled : {net : Netlist} {lab counts id code : List ℕ} {clocks : ℕ} → LagsBelow lab net.nodes clocks → Placed net lab counts clocks id code → Celled (lag_at lab) net.nodes (length code) id
celled low p = record {
  rows = p.numbered.id_rows;
  low = λ v h. omega (arith, low.few, low.low v h);
  inside = λ v t hv ht. p.numbered.inside v t (omega (arith, p.whole)) ht (inl (omega (arith, low.low v hv)));
}

module _ (net : Netlist) (lab counts base id code ins begin kind first operand due : List ℕ) (total clocks : ℕ) (s : Labelled net lab)
    (c : Counts net lab counts) (b : Bases net lab base) (low : LagsBelow lab net.nodes clocks) (p : Placed net lab counts clocks id code)
    (st : Sorts net.to net.edges net.nodes (replicate 1024 0) ins begin)
    (ks : (i : ℕ) → i < length code → at kind i ≡ at net.kind (at code i / 32))
    (os : Operands net.from ins begin counts base id code (length code) first operand) (rows : sum (width_at begin code) (length code) ≤ length operand)
    (ds : Dues net (lag_at lab) (cell_at id) due total) where
  cell : ℕ → ℕ → ℕ
  cell = cell_at id

  okay : Celled (lag_at lab) net.nodes (length code) id
  okay = celled low p

  room : net.edges ≤ length {A = ℕ} (replicate 1024 0)
  room = omega (arith, low_edges net lab s, length-replicate {A = ℕ} 1024 0)

  back : (v t : ℕ) → v < net.nodes → t < lag_at lab v → at code (cell v t) ≡ v * 32 + t
  unfolding cell
  back v t hv ht = p.numbered.back v t (omega (arith, p.whole)) ht (inl (omega (arith, low.low v hv)))

  node_of : (v t : ℕ) → v < net.nodes → t < lag_at lab v → at code (cell v t) / 32 ≡ v
  unfolding cell
  node_of v t hv ht = omega (arith, back v t hv ht, low.few, low.low v hv)

  clock_of : (v t : ℕ) → v < net.nodes → t < lag_at lab v → at code (cell v t) % 32 ≡ t
  unfolding cell
  clock_of v t hv ht = omega (arith, back v t hv ht, low.few, low.low v hv)

  source_is : (t e : ℕ) → e < net.edges → source_at net.from counts base id t e ≡ source net (lags_of lab) cell t e
  unfolding source_at cell
  source_is t e h = ap₂ (λ m a. cond (ltb t m) (a + t) (32 + at id (at net.from e * 32 + (t - m)))) (c e h) (b e (omega arith))

  inside : (e : ℕ) → e < net.edges → at net.to e < net.nodes
  inside = (fit_wired net s.fit).dst_in

  shown : (v t : ℕ) → v < net.nodes → t < lag_at lab v → operands_of first operand (cell v t) ≡ gather (at net.to) (source net (lags_of lab) cell t) v net.edges
  unfolding cell
  shown v t hv ht =
      let i = cell v t in
      let hi : i < length code = okay.inside v t hv ht in
      let d : at code i / 32 ≡ v = node_of v t hv ht in
      let f : ℕ → ℕ = source_at net.from counts base id t in
      let m : ℕ = length (group net.to v net.edges) in
      let size : width_at begin code i ≡ m = ap (λ u. at begin (u + 1) - at begin u) d ∙ sorts_width net.to net.nodes net.edges inside room st v hv in
      let first_i : at first i ≡ sum (width_at begin code) i = os.begins i (omega arith) in
      let next_i : at first (suc i) ≡ sum (width_at begin code) i + width_at begin code i = ap (at first) (sym (add-one i)) ∙ os.begins (i + 1) (omega arith) ∙ sum_more (width_at begin code) i in
      let grow = sum_grows (width_at begin code) (i + 1) (length code) (omega arith) in
      let more = sum_more (width_at begin code) i in
      let take_is : at first (suc i) - at first i ≡ m = omega (arith, first_i, next_i, size) in
      ap₂ (λ x y. take x (drop y operand)) take_is first_i
      ∙ sorts_seen net.to net.nodes net.edges inside room st f operand (sum (width_at begin code) i) v hv (omega (arith, rows, grow, more, size))
      (λ k l. os.shown i hi k (omega (arith, size)) ∙ ap₂ (λ x u. source_at net.from counts base id x (at ins (at begin u + k))) (clock_of v t hv ht) d)
      ∙ gather_same (at net.to) f (source net (lags_of lab) cell t) v net.edges (λ e h q. source_is t e h)

  pub compiled : Compiled net (lags_of lab) (length code) kind first operand due total (cell_at id)
  unfolding cell
  compiled = record {
    inside = okay.inside;
    kinds = λ v t hv ht. ks (cell v t) (okay.inside v t hv ht) ∙ ap (at net.kind) (node_of v t hv ht);
    operands = shown;
    dues = ds;
  }

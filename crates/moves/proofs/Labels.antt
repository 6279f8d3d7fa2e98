-- Labels and lags; the new counts and the chosen values by labels.
--   from_node, to_node, to_small, low_edge    an edge's ends are nodes, the label of the one that it enters is small, and so is its number
--   new_fits, new_is    a new count by the labels of the edge's ends
--   wide_cut            the lowest count above 32, among the edges of a longer column
--   wide_edge, wide_none    the lowest count above 32 is retiming's
--   base_none, chosen_is    running sums
use Prim.Native.Nat.{ℕ, ◌+◌, ◌≤◌, ◌<◌, min}
use native.Mathlib.Omega.{arith}
use mathlib.Core.Path.{◌≡◌, subst, ap₂, ◌∙◌}
use mathlib.Core.List.{List}
use lib.ListN.{length, take}
use Rattle.std.proofs.Common.{Option, Some, None, length-take-le}
use Rattle.std.proofs.lemmas.List.{get_or-take}
use Rattle.theory.specs.Lag.{up}
use Rattle.theory.specs.Move.{sum}
use Rattle.graph.specs.Columns.{at}
use Rattle.netlist.specs.declared.Netlist.{Netlist}
use Rattle.netlist.specs.Circuit.{NarrowAt, WideAt}
use Rattle.netlist.proofs.Run.{fit_rows, fit_wired}
use Rattle.lags.specs.inner.Lags.{lag_of}
use Rattle.lags.proofs.Laws.{lag_label}
use Rattle.moves.specs.inner.Labels.{lags_of, Labelled, count_at, Counts, WideEdge, Wide, chosen_at}

module _ (net : Netlist) (lab : List ℕ) (s : Labelled net lab) (e : ℕ) (h : e < net.edges) where
  pub from_node : at net.from e < net.nodes
  from_node = (fit_wired net s.fit).src_in e h

  pub to_node : at net.to e < net.nodes
  to_node = (fit_wired net s.fit).dst_in e h

  pub to_small : at lab (at net.to e) < 32768
  to_small = s.small (at net.to e) to_node

  pub low_edge : e < 1024
  low_edge = omega (arith, fit_rows net s.fit)

  pub new_fits : at lab (at net.from e) ≤ at net.count e + at lab (at net.to e)
  new_fits = omega (arith, s.legal.fits e h, lag_label (at lab (at net.from e)), lag_label (at lab (at net.to e)))

  pub new_is : (x : ℕ) → x + at lab (at net.from e) ≡ at net.count e + at lab (at net.to e) → x ≡ count_at net lab e
  new_is x q = omega (arith, s.legal.fits e h, lag_label (at lab (at net.from e)), lag_label (at lab (at net.to e)))

pub low_nodes : (net : Netlist) (lab : List ℕ) → Labelled net lab → net.nodes ≤ 512
low_nodes net lab s = (fit_rows net s.fit).0

pub low_edges : (net : Netlist) (lab : List ℕ) → Labelled net lab → net.edges ≤ 1024
low_edges net lab s = (fit_rows net s.fit).1

-- ── Counts above 32 ─────────────────────────────────────────────────────────────────────────

-- What is found in the counts of the edges, cut out of a longer column, is found in the column.
pub wide_cut : (counts : List ℕ) (edges : ℕ) → edges ≤ length counts → (o : Option ℕ) → Wide (take edges counts) (length (take edges counts)) o → Wide counts edges o
wide_cut counts edges h None w = λ i l. rw (get_or-take edges counts i 0 l) at (w i (rw (length-take-le edges counts h) l))
wide_cut counts edges h (Some e) w =
    let inside : e < edges = omega (arith, w.inside, length-take-le edges counts h) in
    record {
      inside = inside;
      low = λ i l. rw (get_or-take edges counts i 0 (omega arith)) at (w.low i l);
      wide = rw (get_or-take edges counts e 0 inside) at w.wide;
    }

pub wide_edge : (net : Netlist) (lab counts : List ℕ) (e : ℕ) → Counts net lab counts → WideEdge counts net.edges e → WideAt net (lags_of lab) e
wide_edge net lab counts e c w = record {
  edge = w.inside;
  wide = subst (λ x. 32 < x) (c e w.inside) w.wide;
  lowest = λ i l. subst (λ x. x ≤ 32) (c i (omega (arith, w.inside))) (w.low i l);
}

pub wide_none : (net : Netlist) (lab counts : List ℕ) → Counts net lab counts → Wide counts net.edges None → NarrowAt net (lags_of lab)
wide_none net lab counts c w e l = subst (λ x. x ≤ 32) (c e l) (w e l)

-- ── Chosen values ───────────────────────────────────────────────────────────────────────────

pub base_none : (f : ℕ → ℕ) (xs : List ℕ) → at xs 0 ≡ 0 → (k : ℕ) → k < 0 + 1 → at xs k ≡ sum f k
unfolding sum
base_none f xs q k h = subst (λ k. at xs k ≡ sum f k) (let z : 0 ≡ k = omega arith in z) q

pub chosen_is : (net : Netlist) (lab counts : List ℕ) → Counts net lab counts → (e : ℕ) → e < net.edges → (x lag : ℕ)
    → lag ≡ up (lag_of (at lab (at net.to e))) → x ≡ min (at counts e) lag → x ≡ chosen_at net lab e
chosen_is net lab counts c e h x lag p q = q ∙ ap₂ min (c e h) p

-- Tables filled: the edges counted one by one, and the counts of the nodes put out.
--   counted_none, counted_more    no edge; one edge more
--   total_few, node_few    no more than 32 an edge, in all and so at a node
--   rails_total         the total of the nodes is that of the edges
--   rows_taken, counted_rows    the rows of a table are its front; the rows of a table that holds the counts
use Prim.Native.Nat.{ℕ, zero, suc, ◌+◌, ◌*◌, ◌<◌, ◌≤◌}
use native.Mathlib.Omega.{arith}
use native.Mathlib.Decide.{ℕ_discrete}
use mathlib.Core.Path.{◌≡◌, refl, sym, ap, ap₂, ◌∙◌}
use mathlib.Core.Bool.{Bool, true, false, cond}
use mathlib.Core.List.{List, [], ◌∷◌, ◌++◌}
use lib.Dec.{eqb}
use lib.ListN.{length, set, take, replicate}
use lib.Seq.{take-suc, get_or-set_same, get_or-set_other}
use borrow.Author.Tests.{eq-eqb, ne_eqb}
use Rattle.theory.specs.Graph.{Graph}
use Rattle.theory.specs.Clock.{Regs}
use Rattle.theory.specs.Move.{sum}
use Rattle.theory.proofs.numbers.Sums.{sum_more, sum_most}
use Rattle.graph.specs.Columns.{at}
use Rattle.netlist.specs.declared.Netlist.{Netlist}
use Rattle.netlist.specs.Net.{zeros, graph_of, regs_of}
use Rattle.netlist.specs.Write.{joined}
use Rattle.netlist.specs.Theorems.{Fit}
use Rattle.netlist.proofs.Lowest.{count_low}
use Rattle.netlist.proofs.Rows.{zeros_at, joined_same}
use Rattle.netlist.proofs.Run.{fit_wired}
use Rattle.rails.specs.Rails.{paid_on, rails_at, rails_in}
use Rattle.rails.specs.inner.Shared.{Counted}
use Rattle.rails.proofs.Sums.{sum_few, sum_swap}
use Rattle.rails.proofs.Shared.{paid_few}

module _ (net : Netlist) where
  abbrev G : Graph
  G = graph_of net

  abbrev R : Regs
  R = regs_of net

  abbrev part : ℕ → ℕ → ℕ
  part u e = cond (eqb (G.src e) u) (paid_on G R e) 0

  pub counted_none : Counted net 0 0 (replicate 512 0)
  unfolding sum zeros
  counted_none = record { node = λ u h. zeros_at 512 u; all = refl }

  pub counted_more : {e total n : ℕ} {rails : List ℕ} → Counted net e total rails → G.src e < length rails → n ≡ paid_on G R e
      → Counted net (e + 1) (total + n) (set rails (G.src e) (at rails (G.src e) + n))
  counted_more {e} {total} {n} {rails} c h p = record {
    node = λ u k. go u k (ℕ_discrete u (G.src e));
    all = ap₂ ◌+◌ c.all p ∙ sym (sum_more (paid_on G R) e);
  }
    where
      go : (u : ℕ) → u < net.nodes → Dec (u ≡ G.src e) → at (set rails (G.src e) (at rails (G.src e) + n)) u ≡ sum (part u) (e + 1)
      go u k (yes z) =
          let q = eq-eqb (G.src e) u (sym z) in
          ap (at (set rails (G.src e) (at rails (G.src e) + n))) z ∙ get_or-set_same rails (G.src e) (at rails (G.src e) + n) 0 h
          ∙ ap₂ ◌+◌ (ap (at rails) (sym z) ∙ c.node u k) (p ∙ ap (λ t. cond t (paid_on G R e) 0) (sym q)) ∙ sym (sum_more (part u) e)
      go u k (no z) =
          let q = ne_eqb (G.src e) u (λ y. z (sym y)) in
          get_or-set_other rails (G.src e) u (at rails (G.src e) + n) 0 z ∙ c.node u k
          ∙ (let y : sum (part u) e ≡ sum (part u) e + 0 = omega arith in y) ∙ ap (λ t. sum (part u) e + cond t (paid_on G R e) 0) (sym q) ∙ sym (sum_more (part u) e)

  module _ (fit : Fit net) where
    pub total_few : {e total : ℕ} {rails : List ℕ} → Counted net e total rails → e ≤ net.edges → total ≤ 32 * e
    total_few {e} c h = omega (arith, c.all, sum_few (paid_on G R) 32 e (λ i l. omega (arith, paid_few G R i, count_low net fit i (omega arith))))

    pub node_few : {e total : ℕ} {rails : List ℕ} → Counted net e total rails → (u : ℕ) → u < net.nodes → at rails u ≤ total
    node_few {e} c u h = omega (arith, c.node u h, c.all, sum_most (part u) (paid_on G R) e (λ i l. low (eqb (G.src i) u) (paid_on G R i)))
      where
        low : (b : Bool) (n : ℕ) → cond b n 0 ≤ n
        low true n = omega arith
        low false n = omega arith

    pub rails_total : rails_in G R ≡ sum (paid_on G R) net.edges
    rails_total = sum_swap G.src (paid_on G R) net.nodes net.edges (fit_wired net fit).src_in

  pub counted_rows : {total : ℕ} {rails : List ℕ} → Counted net net.edges total rails
      → joined (λ u. at rails u ∷ []) net.nodes ≡ joined (λ u. rails_at G R u ∷ []) net.nodes
  counted_rows {total} {rails} c = joined_same (λ u. at rails u ∷ []) (λ u. rails_at G R u ∷ []) net.nodes (λ u h. ap (λ x. x ∷ []) (c.node u h))

-- The rows of a table are its front.
pub rows_taken : (l : List ℕ) (n : ℕ) → n ≤ length l → joined (λ u. at l u ∷ []) n ≡ take n l
unfolding joined
rows_taken l zero h = refl
rows_taken l (suc n) h = ap (λ a. a ++ (at l n ∷ [])) (rows_taken l n (omega arith)) ∙ sym (take-suc l n 0 (omega arith))

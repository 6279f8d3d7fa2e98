-- The nodes that are evaluated in a clock.
--   Listed              all that are asked for in clock s, each after the sources that it sees in the same clock
--   listed_start        all nodes in evaluation order
--   listed_later        k clocks later
--   Refreshed, refreshed    looked through
use Prim.Native.Nat.{ℕ, ◌+◌, ◌*◌, ◌/◌, ◌%◌, ◌<◌, ◌≤◌}
use native.Mathlib.Omega.{arith}
use mathlib.Core.Path.{◌≡◌, refl, sym, ◌∙◌, subst}
use mathlib.Core.Logic.{◌⊎◌, inl, inr}
use mathlib.Core.List.{List}
use lib.ListN.{length, take}
use Rattle.std.proofs.lemmas.List.{length-take-le, get_or-take}
use Rattle.graph.specs.Columns.{at}
use Rattle.graph.specs.inner.Sort.{Stands, Ordered}
use Rattle.graph.specs.inner.Lists.{Filtered}
use Rattle.netlist.specs.declared.Netlist.{Netlist}
use Rattle.starts.specs.inner.Ring.{AskedAt}

pub record Listed (net : Netlist) (lab : List ℕ) (s : ℕ) (list : List ℕ) : Type 0 where
  pub few : length list ≤ net.nodes
  pub nodes_only : (i : ℕ) → i < length list → at list i < net.nodes
  pub every : (v : ℕ) → v < net.nodes → AskedAt lab s v → Stands list (length list) v
  pub sources_first : (i e : ℕ) → i < length list → e < net.edges → at net.to e ≡ at list i → at net.count e ≡ 0 → AskedAt lab s (at net.from e) → Stands list i (at net.from e)

pub listed_start : (net : Netlist) (lab order : List ℕ) → net.nodes ≤ length order → Ordered net.nodes net.edges net.from net.to net.count order
    → Listed net lab 0 (take net.nodes order)
listed_start net lab order rows o = record {
  few = omega (arith, size);
  nodes_only = λ i h. let l : i < net.nodes = omega (arith, size) in rw (same i l) (o.nodes_only i l);
  every = λ v h a. let k = o.every_node v h in record { place = k.place; within = omega (arith, size, k.within); holds = same k.place k.within ∙ k.holds };
  sources_first = λ i e h l q z a.
      let b : i < net.nodes = omega (arith, size) in
      let k = o.sources_first i e b l (q ∙ same i b) z in
      record { place = k.place; within = k.within; holds = same k.place (omega (arith, k.within)) ∙ k.holds };
}
  where
    size : length (take net.nodes order) ≡ net.nodes
    size = length-take-le net.nodes order rows

    same : (i : ℕ) → i < net.nodes → at (take net.nodes order) i ≡ at order i
    same i h = get_or-take net.nodes order i 0 h

-- Whoever is asked for then is asked for now.
pub listed_later : (net : Netlist) (lab : List ℕ) (s : ℕ) (list : List ℕ) (k : ℕ) → Listed net lab s list → Listed net lab (s + k) list
listed_later net lab s list k w = record {
  few = w.few;
  nodes_only = w.nodes_only;
  every = λ v h a. w.every v h (omega arith);
  sources_first = λ i e h l q z a. w.sources_first i e h l q z (omega arith);
}

-- The list for clock s: looked through at the last clock that 32 divides, and members of the list before.
pub record Refreshed (net : Netlist) (lab : List ℕ) (s : ℕ) (list new : List ℕ) : Type 0 where
  pub listed : Listed net lab s new
  pub near : (i : ℕ) → i < length new → s / 32 * 32 + at lab (at new i) < 16384
  pub from : (i : ℕ) → i < length new → (p : ℕ) × (p < length list) × (at list p ≡ at new i)

pub refreshed : (net : Netlist) (lab : List ℕ) (s : ℕ) (list new : List ℕ) → Listed net lab s list
    → ((i : ℕ) → i < length list → 0 < s % 32 → s / 32 * 32 + at lab (at list i) < 16384)
    → ((0 < s % 32) × (new ≡ list)) ⊎ Filtered (AskedAt lab s) list (length list) new (length new) → Refreshed net lab s list new
refreshed net lab s list new w near (inl c) = rw c.1 (record { listed = w; near = λ i h. near i h c.0; from = λ i h. (i, h, refl) })
refreshed net lab s list new w near (inr k) = record {
  listed = record {
    few = omega (arith, k.few, w.few);
    nodes_only = λ i h. let a = k.each i h in subst (λ v. v < net.nodes) a.same (w.nodes_only a.place a.within);
    every = λ v h a.
        let p = w.every v h a in
        let q = k.every p.place p.within (subst (AskedAt lab s) (sym p.holds) a) in
        record { place = q.place; within = q.within; holds = q.holds ∙ p.holds };
    sources_first = λ i e h l q z a.
        let b = k.each i h in
        let p = w.sources_first b.place e b.within l (q ∙ sym b.same) z a in
        let c = b.before p.place p.within (subst (AskedAt lab s) (sym p.holds) a) in
        record { place = c.place; within = c.within; holds = c.holds ∙ p.holds };
  };
  near = λ i h. omega (arith, (k.each i h).has);
  from = λ i h. let a = k.each i h in (a.place, a.within, a.same);
}

-- The plan of a netlist, from its parts.
--   worked, filtered_picks    the nodes of an order that are no inputs, as they are picked
--   planned             the parts make a plan
use Prim.Native.Nat.{ℕ, suc, ◌-◌, ◌≤◌, ◌<◌}
use native.Mathlib.Omega.{arith}
use native.Mathlib.Decide.{ℕ_discrete}
use mathlib.Core.Path.{◌≡◌, refl, sym, subst, ap, ◌∙◌}
use mathlib.Core.Logic.{◌⊎◌, inl, inr}
use mathlib.Core.Bool.{cond}
use mathlib.Core.List.{List}
use lib.Dec.{eqb}
use lib.ListN.{length}
use borrow.Author.Tests.{eq-eqb, ne_eqb}
use Rattle.std.specs.Prelude.{Option, Some, None}
use Rattle.graph.specs.Columns.{at}
use Rattle.graph.specs.inner.Sort.{Ordered}
use Rattle.graph.specs.inner.Lists.{Filtered}
use Rattle.graph.proofs.Picks.{Picked, picks_filtered}
use Rattle.gates.specs.inner.Gates.{Reckons}
use Rattle.netlist.specs.declared.Netlist.{Netlist}
use Rattle.netlist.specs.Theorems.{Fit}
use Rattle.netlist.proofs.Run.{fit_rows}
use Rattle.simulate.specs.declared.plan.Plan.{Plan}
use Rattle.graph.specs.inner.Picks.{picks}
use Rattle.simulate.specs.inner.Plan.{signal, NoInput, Planned}
use Rattle.simulate.proofs.Seen.{Entering}

-- ── The gates ───────────────────────────────────────────────────────────────────────────────

-- A node of the order, where it is no input.
abbrev pub worked : List ℕ → List ℕ → ℕ → Option ℕ
worked kind order i = cond (eqb (at kind (at order i)) 0) None (Some (at order i))

module _ (kind order : List ℕ) where
  tells : (i : ℕ) → Picked (NoInput kind) order (worked kind order) i
  tells i = go (ℕ_discrete (at kind (at order i)) 0)
    where
      go : Dec (at kind (at order i) ≡ 0) → Picked (NoInput kind) order (worked kind order) i
      go (yes q) = inr (λ n. n q, rw (eq-eqb (at kind (at order i)) 0 q) refl)
      go (no q) = inl (q, rw (ne_eqb (at kind (at order i)) 0 q) refl)

  pub filtered_picks : {n : ℕ} {list : List ℕ} → list ≡ picks (worked kind order) n → Filtered (NoInput kind) order n list (length list)
  filtered_picks e = picks_filtered (NoInput kind) order (worked kind order) tells e

-- ── The plan ────────────────────────────────────────────────────────────────────────────────

module _ (net : Netlist) (p : Plan) (f : Fit net) (order : List ℕ) (o : Ordered net.nodes net.edges net.from net.to net.count order)
    (kept : Filtered (NoInput net.kind) order net.nodes p.node (length p.node)) where
  gate_in : (i : ℕ) → i < length p.node → (at p.node i < net.nodes) × ¬ (at net.kind (at p.node i) ≡ 0)
  gate_in i h = let k = kept.each i h in (subst (λ v. v < net.nodes) k.same (o.nodes_only k.place k.within), k.has)

  gate_every : (v : ℕ) → v < net.nodes → ¬ (at net.kind v ≡ 0) → (i : ℕ) × (i < length p.node) × (at p.node i ≡ v)
  gate_every v h n =
      let s = o.every_node v h in
      let t = kept.every s.place s.within (λ z. n (ap (at net.kind) (sym s.holds) ∙ z)) in
      (t.place, t.within, t.holds ∙ s.holds)

  -- The source stands before the node in the order; where it is no input, so it does in the list.
  gate_after : (i e : ℕ) → i < length p.node → e < net.edges → at net.to e ≡ at p.node i → at net.count e ≡ 0
      → (at net.kind (at net.from e) ≡ 0) ⊎ ((j : ℕ) × (j < i) × (at p.node j ≡ at net.from e))
  gate_after i e h l q z = go (ℕ_discrete (at net.kind (at net.from e)) 0)
    where
      go : Dec (at net.kind (at net.from e) ≡ 0) → (at net.kind (at net.from e) ≡ 0) ⊎ ((j : ℕ) × (j < i) × (at p.node j ≡ at net.from e))
      go (yes y) = inl y
      go (no n) =
          let k = kept.each i h in
          let s = o.sources_first k.place e k.within l (q ∙ sym k.same) z in
          let t = k.before s.place s.within (λ y. n (ap (at net.kind) (sym s.holds) ∙ y)) in
          inr (t.place, t.within, t.holds ∙ s.holds)

  pub planned : {ins : List ℕ} → Entering net ins p.first
      → net.edges ≤ length p.sees → ((k : ℕ) → k < net.edges → at p.sees k ≡ signal net (at ins k))
      → ((v : ℕ) → v < net.nodes → Reckons (at net.kind v) (at p.first (suc v) - at p.first v) (at p.truth v))
      → Planned net p
  planned {ins} en rows signals truths = record {
    few = omega (arith, kept.few, (fit_rows net f).0);
    gate = gate_in;
    every = gate_every;
    after = gate_after;
    range = λ v h. (en.rising v h, en.within v h);
    each = λ k h. (at ins k, en.edge k h, signals k h);
    ins = en.its (signal net) p.sees rows signals;
    truth = truths;
  }

-- One clock of the code is one clock of the paper: evaluated in the order of a plan, each node has its value.
--   plan_evaluable, plan_truths    the columns of a plan can be evaluated; each node has a truth word of its kind
--   Right, right_more          the signals of the inputs, of the plan's first n nodes and of the registers are right; one node more
--   right_values               after all of them, each node's signal is its value
use Prim.Native.Nat.{ℕ, zero, suc, ◌+◌, ◌<◌, ◌≤◌}
use native.Mathlib.Omega.{arith}
use native.Mathlib.Decide.{ℕ_discrete}
use mathlib.Core.Path.{◌≡◌, sym, ap, ◌∙◌, subst}
use mathlib.Core.Logic.{⊎_elim}
use mathlib.Core.Bool.{Bool, true, false, cond}
use mathlib.Core.List.{List, map}
use lib.Dec.{eqb}
use lib.ListN.{length, set}
use lib.Seq.{get_or-set_same, get_or-set_other}
use borrow.Author.Tests.{eq-eqb, ne_eqb}
use Rattle.theory.specs.Gate.{gate}
use Rattle.theory.proofs.clocks.Seen.{gather_map, gather_same}
use Rattle.graph.specs.Columns.{at, bit}
use Rattle.gates.specs.inner.Gates.{part, AllBits, evaluated, GateRows, Evaluable, Truths}
use Rattle.gates.proofs.Row.{evaluated_length}
use Rattle.netlist.specs.declared.Netlist.{Netlist}
use Rattle.netlist.proofs.Run.{fit_wired, fit_rows}
use Rattle.simulate.specs.declared.plan.Plan.{Plan}
use Rattle.simulate.specs.Clock.{values}
use Rattle.simulate.specs.inner.Plan.{signal, Planned}
use Rattle.simulate.specs.inner.Ran.{Steppable}
use Rattle.simulate.proofs.Clock.{shown, shown_none, shown_some, value_gate}

-- The columns of a plan, as long as they are in its record.
pub record Rows (p : Plan) : Type 0 where
  pub first : length p.first ≡ 513
  pub sees : length p.sees ≡ 1024
  pub truth : length p.truth ≡ 512

module _ (net : Netlist) (p : Plan) (plan : Planned net p) (ok : Steppable net) where
  -- ── A plan can be evaluated ───────────────────────────────────────────────────────────────

  signal_in : (e : ℕ) → e < net.edges → signal net e < 1536
  signal_in e h = go (eqb (at net.count e) 0)
    where
      go : (b : Bool) → cond b (at net.from e) (512 + e) < 1536
      go true = omega (arith, (fit_wired net ok.fit).src_in e h, (fit_rows net ok.fit).0)
      go false = omega (arith, (fit_rows net ok.fit).1)

  node_placed : Rows p → (v : ℕ) → v < net.nodes → GateRows p.truth p.first p.sees 0 1536 v
  node_placed rows v h =
      let r = plan.range v h in
      let n = fit_rows net ok.fit in record {
        in_truth = omega (arith, n.0, rows.truth);
        in_first = omega (arith, n.0, rows.first);
        in_size = omega (arith, n.0);
        up = r.0;
        in_list = omega (arith, n.1, rows.sees);
        narrow = (plan.truth v h).narrow;
        signals = λ k a b. let w = plan.each k (omega (arith, r.1)) in subst (λ x. x < 1536) (sym w.2) (signal_in w.0 w.1);
      }

  pub plan_evaluable : Rows p → (sig : List ℕ) → length sig ≡ 1536 → AllBits sig → Evaluable p.node p.truth p.first p.sees (length p.node) 0 sig
  plan_evaluable rows sig size bits = record {
    in_node = omega arith;
    placed = λ i h. subst (λ n. GateRows p.truth p.first p.sees 0 n (at p.node i)) (sym size) (node_placed rows (at p.node i) (plan.gate i h).0);
    bits = bits;
  }

  pub plan_truths : Truths net.kind p.node p.truth p.first (length p.node)
  plan_truths i h = plan.truth (at p.node i) (plan.gate i h).0

  -- ── The values ────────────────────────────────────────────────────────────────────────────

  module _ (words vector : List ℕ) where
    abbrev now : ℕ → ℕ
    now v = values net words vector v

    pub record Right (sig : List ℕ) (n : ℕ) : Type 0 where
      pub inputs : (v : ℕ) → v < net.nodes → at net.kind v ≡ 0 → at sig v ≡ now v
      pub done : (i : ℕ) → i < n → at sig (at p.node i) ≡ now (at p.node i)
      pub shows : (e : ℕ) → e < net.edges → ¬ (at net.count e ≡ 0) → at sig (512 + e) ≡ bit (at words e) 0

    -- The source of an edge without a register is an input, or an earlier node of the plan; another edge shows its register.
    signal_right : (sig : List ℕ) (i e : ℕ) → Right sig i → i < (length p.node) → e < net.edges → at net.to e ≡ at p.node i
        → at sig (signal net e) ≡ shown net words now e
    signal_right sig i e r h l q = go (ℕ_discrete (at net.count e) 0)
      where
        u : ℕ
        u = at net.from e

        go : Dec (at net.count e ≡ 0) → at sig (signal net e) ≡ shown net words now e
        go (yes z) =
            ap (λ t. at sig (cond t u (512 + e))) (eq-eqb (at net.count e) 0 z)
            ∙ ⊎_elim (λ k. r.inputs u ((fit_wired net ok.fit).src_in e l) k)
            (λ w. ap (at sig) (sym w.2) ∙ r.done w.0 w.1 ∙ ap now w.2)
            (plan.after i e h l q z)
            ∙ sym (shown_none net words now e z)
        go (no z) =
            ap (λ t. at sig (cond t u (512 + e))) (ne_eqb (at net.count e) 0 z)
            ∙ r.shows e l z ∙ sym (shown_some net words now e (omega arith))

    -- What node i of the plan gives.
    abbrev given : List ℕ → ℕ → ℕ
    given sig v = gate (at net.kind v) (map (at sig) (part p.sees (at p.first v) (at p.first (suc v))))

    -- It sees what the paper has it see.
    node_right : (sig : List ℕ) (i : ℕ) → Right sig i → i < (length p.node) → given sig (at p.node i) ≡ now (at p.node i)
    node_right sig i r h =
        let v = at p.node i in
        let g = plan.gate i h in
        ap (gate (at net.kind v))
        (ap (map (at sig)) (plan.ins v g.0) ∙ gather_map (at sig) (at net.to) (signal net) v net.edges
        ∙ gather_same (at net.to) (λ e. at sig (signal net e)) (shown net words now) v net.edges (λ e k q. signal_right sig i e r h k q))
        ∙ sym (value_gate net (fit_wired net ok.fit) ok.no_loop words vector v g.0 g.1)

    right_more : (sig : List ℕ) (i : ℕ) → length sig ≡ 1536 → i < (length p.node) → Right sig i
        → Right (set sig (at p.node i) (given sig (at p.node i))) (suc i)
    right_more sig i n h r = record {
      inputs = λ u k q. keep u (r.inputs u k q);
      done = λ j k. last j k (ℕ_discrete j i);
      shows = λ e k q. get_or-set_other sig v (512 + e) x 0 (let z : ¬ (512 + e ≡ v) = λ q. omega (arith, (plan.gate i h).0, (fit_rows net ok.fit).0) in z) ∙ r.shows e k q;
    }
      where
        v : ℕ
        v = at p.node i

        x : ℕ
        x = given sig v

        same : at (set sig v x) v ≡ now v
        same = get_or-set_same sig v x 0 (let z : v < length sig = omega (arith, (plan.gate i h).0, (fit_rows net ok.fit).0) in z) ∙ node_right sig i r h

        keep : (u : ℕ) → at sig u ≡ now u → at (set sig v x) u ≡ now u
        keep u q = go (ℕ_discrete u v)
          where
            go : Dec (u ≡ v) → at (set sig v x) u ≡ now u
            go (yes z) = subst (λ y. at (set sig v x) y ≡ now y) (sym z) same
            go (no z) = get_or-set_other sig v u x 0 z ∙ q

        last : (j : ℕ) → j < suc i → Dec (j ≡ i) → at (set sig v x) (at p.node j) ≡ now (at p.node j)
        last j k (yes z) = subst (λ y. at (set sig v x) (at p.node y) ≡ now (at p.node y)) (sym z) same
        last j k (no z) = keep (at p.node j) (r.done j (omega arith))

    -- The signals after the first n nodes of the plan.
    abbrev after : List ℕ → ℕ → List ℕ
    after sig n = evaluated net.kind p.node p.first p.sees 0 n sig

    right_all : (sig : List ℕ) → length sig ≡ 1536 → Right sig 0 → (n : ℕ) → n ≤ (length p.node) → Right (after sig n) n
    unfolding evaluated
    right_all sig l r zero h = r
    right_all sig l r (suc n) h =
        let before = after sig n in
        let v = at p.node n in
        subst (λ k. Right (set before k (given before v)) (suc n)) (let z : v ≡ 0 + v = omega arith in z)
        (right_more before n (evaluated_length net.kind p.node p.first p.sees 0 sig n ∙ l) (omega arith) (right_all sig l r n (omega arith)))

    -- Each node is an input or in the plan.
    pub right_values : (sig : List ℕ) → length sig ≡ 1536 → Right sig 0 → (v : ℕ) → v < net.nodes → at (after sig (length p.node)) v ≡ now v
    right_values sig l r v h = go (ℕ_discrete (at net.kind v) 0)
      where
        right : Right (after sig (length p.node)) (length p.node)
        right = right_all sig l r (length p.node) (omega arith)

        go : Dec (at net.kind v ≡ 0) → at (after sig (length p.node)) v ≡ now v
        go (yes q) = right.inputs v h q
        go (no q) = let w = plan.every v h q in subst (λ u. at (after sig (length p.node)) u ≡ now u) w.2 (right.done w.0 w.1)

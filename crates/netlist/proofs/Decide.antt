-- Rules 5, 6 and 7 can be told of every netlist whose edges join nodes.
--   lowest, lowest?     the lowest number that breaks a rule, or all keep it
--   none_all            where there is no lowest that breaks a rule, all keep it
--   listed              arrival times in a list
--   loop?, from?        from arrival times: a loop without a register, a walk from a pin
--   judge               what the rules 5, 6 and 7 say
use Prim.Native.Nat.{ℕ, ◌<◌}
use native.Mathlib.Omega.{arith}
use native.Mathlib.Decide.{dec_le, dec_lt}
use mathlib.Core.Path.{◌≡◌, refl, sym, subst}
use mathlib.Core.Logic.{◌⊎◌, inl, inr, ⊎_elim}
use mathlib.Core.Bool.{Bool, true, false}
use lib.Dec.{eqb}
use Rattle.theory.specs.Graph.{Graph, Wired}
use Rattle.theory.specs.Walk.{Loop}
use Rattle.theory.proofs.numbers.Find.{any, first, not?}
use Rattle.theory.proofs.walks.Walks.{walk_end}
use Rattle.theory.specs.inner.Arrival.{Reached, Arrival}
use Rattle.theory.proofs.least.Times.{arrival_times}
use Rattle.graph.specs.Columns.{at, fan_in}
use Rattle.graph.specs.Layers.{Told}
use Rattle.graph.specs.inner.Laid.{reverse, From}
use Rattle.graph.specs.inner.Marks.{mark_of}
use Rattle.graph.proofs.Answers.{loop_told, from_told}
use Rattle.graph.proofs.Laws.{from_input, input_from, to_output, output_from}
use Rattle.netlist.specs.declared.Netlist.{Netlist}
use Rattle.netlist.specs.Answer.{Said, value, whole, at_node}
use Rattle.netlist.specs.Order.{GivenAt}
use Rattle.netlist.specs.Net.{graph_of, regs_of}
use Rattle.rules.specs.Rules.{rule_of}
use Rattle.netlist.specs.Read.{FanInFits, InReach, All, Lowest, Judged}
use Rattle.netlist.specs.inner.Record.{rows_to}
use Rattle.netlist.proofs.Rows.{rows_to_in}
use Rattle.netlist.proofs.Order.{Some, Decided, else_some, given?}
use Rattle.netlist.proofs.Judged.{all_none}

-- ── Decisions ───────────────────────────────────────────────────────────────────────────────

both? : {A B : Type 0} → Dec A → Dec B → Dec (A × B)
both? (yes a) (yes b) = yes (a, b)
both? (yes a) (no b) = no (λ p. b p.1)
both? (no a) b = no (λ p. a p.0)

same? : {A B : Type 0} → (A → B) → (B → A) → Dec A → Dec B
same? f g (yes a) = yes (f a)
same? f g (no a) = no (λ b. a (g b))

told? : {A : Type 0} (b : Bool) → Told b A → Dec A
told? true t = yes t
told? false t = no t

pub lowest : {Rule : ℕ → Type 0} (n : ℕ) → ((v : ℕ) → v < n → Dec (Rule v)) → ((v : ℕ) × Lowest Rule n v) ⊎ All Rule n
lowest {Rule} n d =
    ⊎_elim
    (λ r. inl (r.0, record { there = r.1; breaks = r.2; before = λ j l. keeps (d j (omega (arith, r.1))) (r.3 j l) }))
    (λ none. inr (λ v h. keeps (d v h) (none v h)))
    (first n (λ v h. not? (d v h)))
  where
    keeps : {A : Type 0} → Dec A → ¬ ¬ A → A
    keeps (yes a) f = a
    keeps (no a) f = absurd (f a)

module _ {Rule : ℕ → Type 0} (n : ℕ) (x : ℕ → Said) (d : (v : ℕ) → v < n → Dec (Rule v)) where
  lowest? : Decided (GivenAt (Lowest Rule n) x)
  lowest? = ⊎_elim (λ r. inl (x r.0, (r.0, r.1, refl))) (λ a. inr (all_none a)) (lowest n d)

  pub none_all : ((s : Said) → ¬ GivenAt (Lowest Rule n) x s) → All Rule n
  none_all none = ⊎_elim (λ r. absurd (none (x r.0) (r.0, r.1, refl))) (λ a. a) (lowest n d)

-- ── Loops and reach ─────────────────────────────────────────────────────────────────────────

module _ {G : Graph} (w : Wired G) where
  listed : (count delay : ℕ → ℕ) (P : ℕ) (lab a : ℕ → ℕ) → Arrival G count delay P lab a → Arrival G count delay P lab (at (rows_to G.nodes a G.nodes))
  listed count delay P lab a t = record {
    within = λ u v p c. omega (arith, t.within u v p c, same v (walk_end w p));
    reached = λ v h. subst (Reached G count delay P lab v) (sym (same v h)) (t.reached v h);
  }
    where
      same : (v : ℕ) → v < G.nodes → at (rows_to G.nodes a G.nodes) v ≡ a v
      same v h = rows_to_in G.nodes a G.nodes (omega arith) v h

  -- Delays 1, labels 0, and the number of nodes for the period: a late node, or none.
  loop? : (count : ℕ → ℕ) → Dec (Loop G count)
  loop? count =
      let delay : ℕ → ℕ = λ v. 1 in
      let lab : ℕ → ℕ = λ v. 0 in
      let a = arrival_times w count delay G.nodes lab in
      let time = rows_to G.nodes a.0 G.nodes in
      let tell = loop_told w count delay lab (λ v h. refl) (λ v h. refl) time (listed count delay G.nodes lab a.0 a.1) in
      ⊎_elim
      (λ r. yes (tell true (record { node = r.0; within = r.1; above = r.2 })))
      (λ none. no (tell false (λ x. none x.node x.within x.above)))
      (any G.nodes (λ v h. dec_lt G.nodes (at time v)))

  -- Delays 1 at pins and 0 elsewhere, no registers, labels and period 0: the time is 1, or 0.
  from? : (pin v : ℕ) → v < G.nodes → Dec (From G pin v)
  from? pin v h =
      let none : ℕ → ℕ = λ e. 0 in
      let delay : ℕ → ℕ = λ u. mark_of (G.kind u) pin in
      let a = arrival_times w none delay 0 none in
      let time = rows_to G.nodes a.0 G.nodes in
      told? (eqb (at time v) 1) (from_told w none delay none pin (λ e l. refl) (λ u l. refl) (λ u l. refl) time (listed none delay 0 none a.0 a.1) v h)

pub joined? : {G : Graph} → Wired G → (v : ℕ) → v < G.nodes → Dec (InReach G v)
joined? {G} w v h =
    let turned : Wired (reverse G) = record { src_in = w.dst_in; dst_in = w.src_in } in
    both? (same? from_input input_from (from? w 0 v h)) (same? (to_output w) (output_from w) (from? turned 1 v h))

pub fan_in? : (G : Graph) (v : ℕ) → v < G.nodes → Dec (FanInFits G v)
fan_in? G v h = both? (dec_le (rule_of (G.kind v)).fewest (fan_in G v)) (dec_le (fan_in G v) (rule_of (G.kind v)).most)

-- ── The whole ───────────────────────────────────────────────────────────────────────────────

pub judge : (net : Netlist) → Wired (graph_of net) → Some (Judged net)
judge net w =
    else_some (lowest? net.nodes (at_node 5) (fan_in? (graph_of net)))
    (else_some (given? (whole 6) (loop? w (regs_of net).count))
    (else_some (lowest? net.nodes (at_node 7) (joined? w)) (value 0, refl)))

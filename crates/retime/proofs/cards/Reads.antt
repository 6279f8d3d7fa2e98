-- A test that antt computes and that shows that the text of rows reads.
--   fed, drained        each node in its turn is entered from a lower one, and leaves for a higher one; so rule 7 holds
--   reads?, reads_yes
use Prim.Native.Nat.{ℕ, zero, suc, ◌+◌, ◌-◌, ◌<◌, ◌≤◌}
use native.Mathlib.Omega.{arith}
use mathlib.Core.Path.{◌≡◌, refl, ◌∙◌, subst}
use mathlib.Core.Bool.{Bool, true, false, not, ◌&&◌}
use mathlib.Core.List.{List, ◌++◌}
use lib.Dec.{T, leb, ltb, eqb, leb→le, ltb→lt, eqb→eq}
use lib.ListN.{length, get_or, length-append, get_or-eq_default}
use Rattle.theory.specs.Graph.{Graph, Wired}
use Rattle.theory.specs.Walk.{one, more, FromInput, ToOutput}
use Rattle.theory.proofs.walks.Walks.{join}
use Rattle.theory.proofs.walks.Loops.{rank_no_loop}
use Rattle.theory.proofs.cards.Tests.{imp, imp_elim, ands, not_not, all, all_elim, all_not}
use Rattle.theory.proofs.cards.Run.{Rows}
use Rattle.graph.specs.Columns.{fan_in}
use Rattle.netlist.specs.declared.Netlist.{Netlist}
use Rattle.netlist.specs.Answer.{value}
use Rattle.netlist.specs.Net.{zeros, graph_of, regs_of}
use Rattle.rules.specs.Rules.{rule_of}
use Rattle.netlist.specs.Read.{Reads, judged}
use Rattle.netlist.specs.Write.{text_of}
use Rattle.netlist.specs.Theorems.{Fit, Clean}
use Rattle.netlist.proofs.Rows.{length_zeros}
use Rattle.netlist.proofs.Fits.{head_test, node_test, edge_test}
use Rattle.netlist.proofs.Run.{fit_rows, fit_wired}
use Rattle.netlist.proofs.Judged.{judged_sound}
use Rattle.netlist.proofs.theorems.Lines.{lines_fact}
use Rattle.retime.proofs.cards.Net.{net_of, padded_at}

-- ── Rule 7 ──────────────────────────────────────────────────────────────────────────────────

module _ (G : Graph) where
  abbrev into : ℕ → ℕ → Bool
  into v e = eqb (G.dst e) v && ltb (G.src e) v

  abbrev pub fed? : ℕ → Bool
  fed? v = imp (not (eqb (G.kind v) 0)) (not (all G.edges (λ e. not (into v e))))

  abbrev out_of : ℕ → ℕ → Bool
  out_of v e = eqb (G.src e) v && ltb v (G.dst e)

  abbrev pub drained? : ℕ → Bool
  drained? v = imp (not (eqb (G.kind v) 1)) (not (all G.edges (λ e. not (out_of v e))))

  module _ (w : Wired G) where
    fed : (n : ℕ) → ((v : ℕ) → v < G.nodes → T (fed? v)) → (v : ℕ) → v < n → v < G.nodes → FromInput G v
    fed zero t v h l = absurd (let z : ⊥ = omega arith in z)
    fed (suc n) t v h l = go (eqb (G.kind v) 0) refl (t v l) (λ u k m. fed n t u (omega arith) m)
      where
        go : (b : Bool) → eqb (G.kind v) 0 ≡ b → T (imp (not b) (not (all G.edges (λ e. not (into v e)))))
            → ((u : ℕ) → u < v → u < G.nodes → FromInput G u) → FromInput G v
        go true q u before = record { from = v; input = eqb→eq (G.kind v) 0 (rw q tt); walk = one l }
        go false q u before =
            let (e, he, x) = all_not G.edges (λ e. not (into v e)) u in
            ands (eqb (G.dst e) v) (ltb (G.src e) v)
            (λ a b.
            let p = eqb→eq (G.dst e) v a in
            let f = before (G.src e) (ltb→lt (G.src e) v b) (w.src_in e he) in
            subst (FromInput G) p (record { from = f.from; input = f.input; walk = more e he f.walk }))
            (not_not (into v e) x)

    drained : (n : ℕ) → ((v : ℕ) → v < G.nodes → T (drained? v)) → (v : ℕ) → G.nodes ≤ n + v → v < G.nodes → ToOutput G v
    drained zero t v h l = absurd (let z : ⊥ = omega arith in z)
    drained (suc n) t v h l = go (eqb (G.kind v) 1) refl (t v l) (λ u k m. drained n t u (omega arith) m)
      where
        go : (b : Bool) → eqb (G.kind v) 1 ≡ b → T (imp (not b) (not (all G.edges (λ e. not (out_of v e)))))
            → ((u : ℕ) → v < u → u < G.nodes → ToOutput G u) → ToOutput G v
        go true q u after = record { to = v; output = eqb→eq (G.kind v) 1 (rw q tt); walk = one l }
        go false q u after =
            let (e, he, x) = all_not G.edges (λ e. not (out_of v e)) u in
            ands (eqb (G.src e) v) (ltb v (G.dst e))
            (λ a b.
            let p = eqb→eq (G.src e) v a in
            let f = after (G.dst e) (ltb→lt v (G.dst e) b) (w.dst_in e he) in
            subst (ToOutput G) p (record { to = f.to; output = f.output; walk = join (more e he (one (w.src_in e he))) f.walk }))
            (not_not (out_of v e) x)

-- ── All rules ───────────────────────────────────────────────────────────────────────────────

pub is_true : (b : Bool) → T b → b ≡ true
is_true true t = refl
is_true false t = absurd t

abbrev fan? : Graph → ℕ → Bool
fan? G v = leb (rule_of (G.kind v)).fewest (fan_in G v) && leb (fan_in G v) (rule_of (G.kind v)).most

-- An edge without a register goes from a lower node to a higher one.
abbrev climbs : Netlist → ℕ → Bool
climbs net e = imp (eqb ((regs_of net).count e) 0) (ltb ((graph_of net).src e) ((graph_of net).dst e))

-- All columns of the nodes have as many rows, and all columns of the edges.
abbrev even : Rows → Bool
even t = eqb (length t.delay) (length t.kind) && (eqb (length t.dst) (length t.src) && (eqb (length t.count) (length t.src) && eqb (length t.start) (length t.src)))

module _ (t : Rows) (period : ℕ) where
  abbrev net : Netlist
  net = net_of t period

  abbrev rules : Bool
  rules = head_test net && (all net.nodes (node_test net) && all net.edges (edge_test net))

  abbrev wholes : Bool
  wholes = all net.nodes (fan? (graph_of net)) && (all net.edges (climbs net) && (all net.nodes (fed? (graph_of net)) && all net.nodes (drained? (graph_of net))))

  abbrev pub reads? : Bool
  reads? = even t && (rules && wholes)

  fits : T rules → Fit net
  fits = ands (head_test net) _ λ a. ands (all net.nodes (node_test net)) _ λ b c. record {
    head = is_true (head_test net) a;
    node = λ v h. is_true (node_test net v) (all_elim net.nodes (node_test net) b v h);
    edge = λ e h. is_true (edge_test net e) (all_elim net.edges (edge_test net) c e h);
  }

  column_full : (m : ℕ) (l : List ℕ) → length l ≤ m → length (l ++ zeros (m - length l)) ≡ m
  column_full m l h = length-append l (zeros (m - length l)) ∙ omega (arith, length_zeros (m - length l))

  column_none : (m n : ℕ) (l : List ℕ) → length l ≡ n → (i : ℕ) → n ≤ i → get_or (l ++ zeros (m - length l)) i 0 ≡ 0
  column_none m n l e i h = padded_at m l i ∙ get_or-eq_default l 0 (omega arith)

  clean : T (even t) → Fit net → Clean net
  unfolding net_of
  clean s f =
      ands (eqb (length t.delay) (length t.kind)) _
      (λ a. ands (eqb (length t.dst) (length t.src)) _
      (λ b. ands (eqb (length t.count) (length t.src)) (eqb (length t.start) (length t.src))
      (λ c d.
      let p = eqb→eq (length t.delay) (length t.kind) a in
      let q = eqb→eq (length t.dst) (length t.src) b in
      let r = eqb→eq (length t.count) (length t.src) c in
      let o = eqb→eq (length t.start) (length t.src) d in
      let few = fit_rows net f in
      record {
        kinds = (column_full 512 t.kind few.0, column_full 512 t.delay (omega (arith, few.0)));
        ends = (
          column_full 1024 t.src few.1,
          column_full 1024 t.dst (omega (arith, few.1)),
          column_full 1024 t.count (omega (arith, few.1)),
          column_full 1024 t.start (omega (arith, few.1)),
        );
        node = λ v h. (column_none 512 (length t.kind) t.kind refl v h, column_none 512 (length t.kind) t.delay p v h);
        edge = λ e h. (
          column_none 1024 (length t.src) t.src refl e h,
          column_none 1024 (length t.src) t.dst q e h,
          column_none 1024 (length t.src) t.count r e h,
          column_none 1024 (length t.src) t.start o e h,
        );
      }))) s

  pub reads_yes : T reads? → Reads (text_of net) (value 0) net
  reads_yes =
      ands (even t) _
      (λ s. ands rules wholes
      (λ a. ands (all net.nodes (fan? (graph_of net))) _
      (λ b. ands (all net.edges (climbs net)) _
      (λ c. ands (all net.nodes (fed? (graph_of net))) (all net.nodes (drained? (graph_of net)))
      (λ d e.
      let f = fits a in
      let w = fit_wired net f in
      judged net ((lines_fact (text_of net) net).1 (f, clean s f, refl))
      (judged_sound net
      (λ v h. ands (leb (rule_of ((graph_of net).kind v)).fewest (fan_in (graph_of net) v)) _ (λ x y. (leb→le _ _ x, leb→le _ _ y)) (all_elim net.nodes (fan? (graph_of net)) b v h))
      (rank_no_loop (λ v. v) (λ i h z. ltb→lt ((graph_of net).src i) ((graph_of net).dst i)
      (imp_elim (eqb ((regs_of net).count i) 0) (ltb ((graph_of net).src i) ((graph_of net).dst i)) (all_elim net.edges (climbs net) c i h) (rw z tt))))
      (λ v h. (
        fed (graph_of net) w net.nodes (all_elim net.nodes (fed? (graph_of net)) d) v h h,
        drained (graph_of net) w net.nodes (all_elim net.nodes (drained? (graph_of net)) e) v (omega arith) h,
      )))
      refl)))))

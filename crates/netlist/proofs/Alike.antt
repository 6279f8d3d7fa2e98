-- Two circuits that agree on their nodes and edges: the rules 5, 6 and 7 say the same of both.
--   Alike G G' c c'     the same nodes and edges, with the same kinds, ends and counts
--   Copy                a walk with so many registers and so many edges
--   walk_alike          every walk of the one is one of the other
--   fan_alike, loop_alike, joined_alike    a rule is kept in both; the lowest node that breaks it is the same: lowest_fan, lowest_reach
--   judged_same         so what is said of a netlist is said of one that is the same
use Prim.Native.Nat.{ℕ, zero, suc, ◌+◌, ◌<◌, ◌≤◌}
use native.Mathlib.Omega.{arith}
use mathlib.Core.Path.{◌≡◌, refl, sym, ap, ap₂, ◌∙◌, subst, subst₂}
use mathlib.Core.List.{◌++◌}
use lib.Dec.{eqb}
use lib.ListN.{length}
use Rattle.theory.specs.Graph.{Graph, Wired}
use Rattle.theory.specs.Walk.{Walk, one, more, registers, walk_steps, Loop}
use Rattle.theory.specs.Clock.{gather, only}
use Rattle.theory.proofs.walks.Walks.{walk_start, walk_end}
use Rattle.graph.specs.Columns.{fan_in}
use Rattle.netlist.specs.declared.Netlist.{Netlist}
use Rattle.netlist.specs.Answer.{Said}
use Rattle.netlist.specs.Net.{graph_of, regs_of}
use Rattle.netlist.specs.Read.{FanInFits, InReach, Lowest, Judged}
use Rattle.netlist.specs.Theorems.{Same}
use Rattle.rules.specs.Rules.{rule_of}
use Rattle.netlist.proofs.Order.{else_map, given_map, given_at_map}

pub record Alike (G G' : Graph) (c c' : ℕ → ℕ) : Type 0 where
  pub nodes : G.nodes ≡ G'.nodes
  pub edges : G.edges ≡ G'.edges
  pub kind : (v : ℕ) → v < G.nodes → G.kind v ≡ G'.kind v
  pub src : (e : ℕ) → e < G.edges → G.src e ≡ G'.src e
  pub dst : (e : ℕ) → e < G.edges → G.dst e ≡ G'.dst e
  pub count : (e : ℕ) → e < G.edges → c e ≡ c' e

-- A walk from u to v with so many registers and so many edges.
abbrev Copy : Graph → (ℕ → ℕ) → ℕ → ℕ → ℕ → ℕ → Type 0
Copy G c k n u v = (p : Walk G u v) × (registers c p ≡ k) × (walk_steps p ≡ n)

gather_alike : (dst dst' f : ℕ → ℕ) (v n : ℕ) → ((e : ℕ) → e < n → dst e ≡ dst' e) → gather dst f v n ≡ gather dst' f v n
unfolding gather
gather_alike dst dst' f v zero h = refl
gather_alike dst dst' f v (suc n) h = ap₂ ◌++◌ (gather_alike dst dst' f v n (λ e l. h e (omega arith))) (ap (λ d. only (eqb d v) f n) (h n (omega arith)))

module _ {G G' : Graph} {c c' : ℕ → ℕ} (a : Alike G G' c c') where
  back : Alike G' G c' c
  back =
      let n = a.nodes in
      let m = a.edges in
      record {
        nodes = sym a.nodes;
        edges = sym a.edges;
        kind = λ v h. sym (a.kind v (omega arith));
        src = λ e h. sym (a.src e (omega arith));
        dst = λ e h. sym (a.dst e (omega arith));
        count = λ e h. sym (a.count e (omega arith));
      }

  walk_alike : {u v : ℕ} (p : Walk G u v) → Copy G' c' (registers c p) (walk_steps p) u v
  unfolding registers walk_steps
  walk_alike {u} (one h) = (one (omega (arith, a.nodes)), refl, refl)
  walk_alike {u} (more e h p) =
      let k = registers c p in
      let n = walk_steps p in
      let q = subst (Copy G' c' k n u) (a.src e h) (walk_alike p) in
      subst (Copy G' c' (k + c e) (suc n) u) (sym (a.dst e h)) (more e (omega (arith, a.edges)) q.0, ap₂ ◌+◌ q.1 (sym (a.count e h)), ap suc q.2)

  loop_alike : Loop G c → Loop G' c'
  loop_alike l = let q = walk_alike l.walk in record { node = l.node; walk = q.0; moves = omega (arith, q.2, l.moves); bare = q.1 ∙ l.bare }

  fan_alike : (v : ℕ) → v < G.nodes → FanInFits G v → FanInFits G' v
  fan_alike v h f =
      let n : fan_in G v ≡ fan_in G' v = ap length (gather_alike G.dst G'.dst (λ e. e) v G.edges a.dst ∙ ap (gather G'.dst (λ e. e) v) a.edges) in
      subst₂ (λ k n. ((rule_of k).fewest ≤ n) × (n ≤ (rule_of k).most)) (a.kind v h) n f

  joined_alike : Wired G → (v : ℕ) → InReach G v → InReach G' v
  joined_alike w v j =
      let f = j.0 in
      let t = j.1 in (
        record { from = f.from; input = sym (a.kind f.from (walk_start f.walk)) ∙ f.input; walk = (walk_alike f.walk).0 },
        record { to = t.to; output = sym (a.kind t.to (walk_end w t.walk)) ∙ t.output; walk = (walk_alike t.walk).0 },
      )

  wired_alike : Wired G → Wired G'
  wired_alike w =
      let n = a.nodes in
      let m = a.edges in
      record {
        src_in = λ e h. omega (arith, a.src e (omega arith), w.src_in e (omega arith));
        dst_in = λ e h. omega (arith, a.dst e (omega arith), w.dst_in e (omega arith));
      }

lowest_same : {R R' : ℕ → Type 0} {n n' v : ℕ} → n ≡ n' → ((v : ℕ) → v < n → R v → R' v) → ((v : ℕ) → v < n → R' v → R v) → Lowest R n v → Lowest R' n' v
lowest_same {v = v} e f g l = let h = l.there in record {
  there = omega arith;
  breaks = λ r. l.breaks (g v h r);
  before = λ u k. f u (omega arith) (l.before u k);
}

module _ {G G' : Graph} {c c' : ℕ → ℕ} (a : Alike G G' c c') where
  lowest_fan : (v : ℕ) → Lowest (FanInFits G) G.nodes v → Lowest (FanInFits G') G'.nodes v
  lowest_fan v = lowest_same a.nodes (fan_alike a) (λ u h. fan_alike (back a) u (omega (arith, a.nodes)))

  lowest_reach : Wired G → (v : ℕ) → Lowest (InReach G) G.nodes v → Lowest (InReach G') G'.nodes v
  lowest_reach w v = lowest_same a.nodes (λ u h. joined_alike a w u) (λ u h. joined_alike (back a) (wired_alike a w) u)

same_alike : {net net' : Netlist} → Same net net' → Alike (graph_of net) (graph_of net') (regs_of net).count (regs_of net').count
same_alike q = record {
  nodes = q.head.2;
  edges = q.head.3;
  kind = λ v h. (q.node v h).0;
  src = λ e h. (q.edge e h).0;
  dst = λ e h. (q.edge e h).1;
  count = λ e h. (q.edge e h).2;
}

pub judged_same : {net net' : Netlist} {s : Said} → Wired (graph_of net) → Same net net' → Judged net s → Judged net' s
judged_same w q =
    let a = same_alike q in
    let b = back a in
    else_map (given_at_map (lowest_fan a)) (given_at_map (lowest_fan b))
    (else_map (given_map (loop_alike a)) (given_map (loop_alike b))
    (else_map (given_at_map (lowest_reach a w)) (given_at_map (lowest_reach b (wired_alike a w))) (λ e. e)))

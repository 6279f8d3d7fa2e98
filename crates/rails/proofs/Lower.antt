-- The edges that leave a node, one after the other: what those below an edge share with it.
--   group_one, group_grows, group_over   one item more of the group is one more; more items have no shorter group, and a longer one with one of the group among them
--   shared_skip         edges of other nodes share nothing
--   Passed              what the first p edges of the node share is known
--   passed_none, passed_next, passed_ends   none; one more; all that are lower
--   outs_next, outs_past, outs_end   so with the part of its node in the edges sorted
use Prim.Native.Nat.{ℕ, zero, suc, ◌+◌, ◌<◌, ◌≤◌}
use native.Mathlib.Omega.{arith}
use native.Mathlib.Nat.{le_of_eq}
use native.Mathlib.Numerals.{add-one}
use native.Mathlib.Decide.{ℕ_discrete, dec_lt}
use mathlib.Core.Path.{◌≡◌, refl, sym, ap, ◌∙◌, subst}
use mathlib.Core.List.{List}
use lib.ListN.{length, take, drop, replicate, length-append, length-replicate}
use lib.Seq.{length-sets}
use Rattle.std.specs.Prelude.{slice_range}
use Rattle.theory.specs.Graph.{Graph}
use Rattle.theory.specs.Clock.{Regs, gather}
use Rattle.graph.specs.Columns.{at}
use Rattle.graph.specs.inner.Sort.{group, sorted, Sorts}
use Rattle.graph.proofs.Sorted.{group_hit, group_miss, group_item}
use Rattle.graph.proofs.ByNode.{sorts_by_node, sorts_width, sorts_seen}
use Rattle.netlist.specs.declared.Netlist.{Netlist}
use Rattle.netlist.specs.Net.{graph_of, regs_of}
use Rattle.netlist.specs.Theorems.{Fit}
use Rattle.netlist.proofs.Run.{fit_rows, fit_wired}
use Rattle.rails.specs.Rails.{outward}
use Rattle.rails.specs.inner.Shared.{Further, Shared}
use Rattle.rails.proofs.Shared.{shared_none, shared_other, shared_further}

module _ (key : List ℕ) (k : ℕ) where
  group_one : (n : ℕ) → at key n ≡ k → length (group key k (n + 1)) ≡ length (group key k n) + 1
  group_one n h = rw (add-one n, group_hit key k n h) (simp length-append (omega arith))

  group_more : (n : ℕ) → length (group key k n) ≤ length (group key k (suc n))
  group_more n = go (ℕ_discrete (at key n) k)
    where
      go : Dec (at key n ≡ k) → length (group key k n) ≤ length (group key k (suc n))
      go (yes q) = let g = group_one n q in rw (sym (add-one n)) (omega (arith, g))
      go (no q) = rw (group_miss key k n q) (omega arith)

  group_grows : (n i : ℕ) → n ≤ i → length (group key k n) ≤ length (group key k i)
  group_grows n zero h = le_of_eq (ap (λ j. length (group key k j)) (let y : n ≡ 0 = omega arith in y))
  group_grows n (suc i) h = go (group_grows n i) (ℕ_discrete n (suc i))
    where
      go : (n ≤ i → length (group key k n) ≤ length (group key k i)) → Dec (n ≡ suc i) → length (group key k n) ≤ length (group key k (suc i))
      go before (yes q) = le_of_eq (ap (λ j. length (group key k j)) q)
      go before (no q) = omega (arith, before (omega arith), group_more i)

  group_over : (n i : ℕ) → n < i → at key n ≡ k → length (group key k n) < length (group key k i)
  group_over n i h q = omega (arith, group_one n q, group_grows (n + 1) i (omega arith))

-- ── What is shared ──────────────────────────────────────────────────────────────────────────

module _ (net : Netlist) (e : ℕ) where
  abbrev G : Graph
  G = graph_of net

  abbrev R : Regs
  R = regs_of net

  abbrev pub leaving : ℕ → List ℕ
  leaving n = group net.from (at net.from e) n

  shared_skip : (n i m : ℕ) → n ≤ i → Shared G R e n m → ((j : ℕ) → n ≤ j → j < i → ¬ (at net.from j ≡ at net.from e)) → Shared G R e i m
  shared_skip n zero m h s o = subst (λ j. Shared G R e j m) (let y : n ≡ 0 = omega arith in y) s
  shared_skip n (suc i) m h s o = go (λ l. shared_skip n i m l s (λ j a b. o j a (omega arith))) (ℕ_discrete n (suc i))
    where
      go : (n ≤ i → Shared G R e i m) → Dec (n ≡ suc i) → Shared G R e (suc i) m
      go before (yes q) = subst (λ j. Shared G R e j m) q s
      go before (no q) = subst (λ j. Shared G R e j m) (add-one i) (shared_other G R e (before (omega arith)) (o i (omega arith) (omega arith)))

  -- The first p edges that leave the node of e are those below some number, e at most.
  pub record Passed (p m : ℕ) : Type 0 where
    pub upto : ℕ
    pub low : upto ≤ e
    pub passed : length (leaving upto) ≡ p
    pub shared : Shared G R e upto m

  pub passed_none : Passed 0 0
  unfolding gather
  passed_none = record { upto = 0; low = omega arith; passed = refl; shared = shared_none G R e }

  module _ {p m : ℕ} (s : Passed p m) where
    passed_to : (i : ℕ) → s.upto ≤ i → length (leaving i) ≤ p → Shared G R e i m
    passed_to i h l =
        shared_skip s.upto i m h s.shared
        λ j a b q.
        omega (arith, s.passed, l, group_grows net.from (at net.from e) s.upto j a, group_over net.from (at net.from e) j i b q)

    passed_next : {m' : ℕ} (i : ℕ) → i < e → at net.from i ≡ at net.from e → length (leaving i) ≡ p
        → Further (outward R e) (R.count e) (outward R i) (R.count i) m m' → Passed (p + 1) m'
    passed_next {m'} i h q l f = record {
      upto = i + 1;
      low = omega arith;
      passed = omega (arith, group_one net.from (at net.from e) i q, l);
      shared = shared_further G R e (passed_to i (go (dec_lt i s.upto)) (omega (arith, l))) q f;
    }
      where
        go : Dec (i < s.upto) → s.upto ≤ i
        go (yes z) = absurd (omega (arith, s.passed, l, group_over net.from (at net.from e) i s.upto z q))
        go (no z) = omega (arith, z)

    passed_ends : (i : ℕ) → e ≤ i → length (leaving i) ≡ p → Shared G R e e m
    passed_ends i h l = passed_to e s.low (omega (arith, l, group_grows net.from (at net.from e) e i h))

-- ── The part of a node ──────────────────────────────────────────────────────────────────────

module _ (net : Netlist) (fit : Fit net) {list begin : List ℕ} (s : Sorts net.from net.edges net.nodes (replicate 1024 0) list begin) (e : ℕ) (h : e < net.edges) where
  abbrev u : ℕ
  u = at net.from e

  there : u < net.nodes
  there = (fit_wired net fit).src_in e h

  inside : (i : ℕ) → i < net.edges → at net.from i < net.nodes
  inside = (fit_wired net fit).src_in

  room : net.edges ≤ length {A = ℕ} (replicate 1024 0)
  room = omega (arith, (fit_rows net fit).1, length-replicate {A = ℕ} 1024 0)

  fits : at begin u + length (leaving net e net.edges) ≤ length list
  fits =
      let n = sorts_by_node net.from net.nodes net.edges inside room s in
      omega (arith, sorts_width net.from net.nodes net.edges inside room s u there, n.up u there, n.within u there, room, ap length s.placed, length-sets (replicate 1024 0) 0 (sorted net.from net.edges net.nodes))

  abbrev outs : List ℕ
  outs = slice_range list (at begin u) (at begin (u + 1))

  outs_are : outs ≡ leaving net e net.edges
  outs_are =
      ap (λ n. take n (drop (at begin u) list)) (sorts_width net.from net.nodes net.edges inside room s u there)
      ∙ sorts_seen net.from net.nodes net.edges inside room s (λ x. x) list (at begin u) u there fits (λ k l. refl)

  module _ {v : ℕ} {xs : List ℕ} (q : v ≡ u) (x : xs ≡ slice_range list (at begin v) (at begin (v + 1))) where
    all : xs ≡ leaving net e net.edges
    all = x ∙ ap (λ n. slice_range list (at begin n) (at begin (n + 1))) q ∙ outs_are

    module _ {p m : ℕ} (t : Passed net e p m) where
      module _ (l : p < length xs) (i : ℕ) (here : i ≡ at xs p) where
        item : (i < net.edges) × (at net.from i ≡ u) × (length (leaving net e i) ≡ p)
        item = rw (here, all) (group_item net.from u net.edges p (subst (λ ys. p < length ys) all l))

        pub outs_next : {m' : ℕ} → i < e → Further (outward (regs_of net) e) (at net.count e) (outward (regs_of net) i) (at net.count i) m m' → Passed net e (p + 1) m'
        outs_next h f = passed_next net e t i h item.1 item.2 f

        pub outs_past : e ≤ i → Shared (graph_of net) (regs_of net) e e m
        outs_past h = passed_ends net e t i h item.2

      pub outs_end : length xs ≤ p → Shared (graph_of net) (regs_of net) e e m
      outs_end l = passed_ends net e t net.edges (omega (arith, h)) (omega (arith, ap length all, t.passed, l, group_grows net.from u t.upto net.edges (omega (arith, t.low, h))))

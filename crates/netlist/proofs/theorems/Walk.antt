-- The walk from the inputs.
--   new?                whether a pass marks something
--   stops               when a walk stops
--   marks_of            marks for a property that can be told
--   some_walk, one_walk, walk_begins, walk_ends
use Prim.Native.Nat.{ℕ, zero, suc, ◌≤◌, ◌<◌}
use native.Mathlib.Omega.{arith}
use native.Mathlib.Decide.{dec_lt}
use mathlib.Core.Path.{◌≡◌, refl, sym, subst, ap, ◌∙◌}
use mathlib.Core.Bool.{Bool, true, false}
use mathlib.Core.Logic.{⊎_elim}
use mathlib.Core.List.{List, []}
use borrow.Author.Count.{below_more}
use lib.ListN.{length, set, replicate, length-set, length-replicate}
use lib.Seq.{get_or-set_same, get_or-set_other}
use Rattle.theory.specs.Graph.{Graph, Wired}
use Rattle.theory.proofs.numbers.Find.{any, not?}
use Rattle.graph.specs.Columns.{flag}
use Rattle.graph.specs.declared.layers.Layer.{Layer}
use Rattle.graph.specs.Layers.{Told, FromWithin, NewAt, LayerFrom}
use Rattle.graph.proofs.Laws.{from_input, input_from}
use Rattle.graph.proofs.Passes.{marked_has, has_marked, mark_tells, within_pin, within_none, within_more, within?, settled_told}
use Rattle.netlist.specs.declared.Netlist.{Netlist}
use Rattle.netlist.specs.Answer.{Said, value}
use Rattle.netlist.specs.Net.{graph_of}
use Rattle.netlist.specs.Read.{Lines, fault, lines, lines_of}
use Rattle.netlist.specs.Walk.{empty_layer, WalksBy, Walks}
use Rattle.netlist.specs.Theorems.{SomeWalk, OneWalk, WalkBegins, WalkEnds}
use Rattle.netlist.proofs.Run.{fit_wired}
use Rattle.netlist.proofs.Answered.{lined_fit}

-- ── Some walk ───────────────────────────────────────────────────────────────────────────────

-- How many passes are made of `most`: as many, or up to the first that marks nothing.
record Stop (G : Graph) (k most : ℕ) : Type 0 where
  pub passes : ℕ
  pub few : passes ≤ most
  pub going : (n : ℕ) → n < passes → NewAt G k n
  pub ended : passes < most → ¬ NewAt G k passes

module _ {G : Graph} (w : Wired G) (k : ℕ) where
  new? : (n : ℕ) → Dec (NewAt G k n)
  new? zero = ⊎_elim
      (λ x. yes (record { node = x.0; there = x.1; reached = x.2; first = λ m l. absurd (let z : ⊥ = omega arith in z) }))
      (λ none. no (λ x. none x.node x.there x.reached))
      (any G.nodes (λ v h. within? w k 0 v h))
  new? (suc n) = ⊎_elim
      (λ x. yes (record { node = x.0; there = x.1; reached = x.2.0; first = λ m l y. x.2.1 (within_more (omega arith) y) }))
      (λ none. no (λ x. none x.node x.there (x.reached, x.first n (omega arith))))
      (any G.nodes (λ v h. both? (within? w k (suc n) v h) (not? (within? w k n v h))))
    where
      both? : {A B : Type 0} → Dec A → Dec B → Dec (A × B)
      both? (yes a) (yes b) = yes (a, b)
      both? (yes a) (no b) = no (λ p. b p.1)
      both? (no a) b = no (λ p. a p.0)

  stops : (most : ℕ) → Stop G k most
  stops zero = record { passes = 0; few = omega arith; going = λ n l. absurd (let z : ⊥ = omega arith in z); ended = λ l. absurd (let z : ⊥ = omega arith in z) }
  stops (suc m) = go (stops m) (new? m)
    where
      next : (s : Stop G k m) → Dec (NewAt G k m) → Dec (s.passes < m) → Stop G k (suc m)
      next s d (yes l) = record { passes = s.passes; few = omega arith; going = s.going; ended = λ j. s.ended l }
      next s (yes x) (no l) = record {
        passes = suc m;
        few = omega arith;
        going = λ n j. below_more (NewAt G k) m (λ i h. s.going i (omega (arith, s.few))) x n (omega arith);
        ended = λ j. absurd (let z : ⊥ = omega arith in z);
      }
      next s (no x) (no l) = record { passes = m; few = omega arith; going = λ n j. s.going n (omega (arith, s.few)); ended = λ j. x }

      go : Stop G k m → Dec (NewAt G k m) → Stop G k (suc m)
      go s d = next s d (dec_lt s.passes m)

-- A mark for each of the first n numbers that have the property.
module _ {P : ℕ → Type 0} (n : ℕ) (d : (v : ℕ) → v < n → Dec (P v)) where
  abbrev told : {A : Type 0} → Dec A → Bool
  told (yes a) = true
  told (no a) = false

  told_tells : {A : Type 0} (x : Dec A) → Told (told x) A
  told_tells (yes a) = a
  told_tells (no a) = a

  abbrev mark : (v : ℕ) → Dec (v < n) → Bool
  mark v (yes h) = told (d v h)
  mark v (no h) = false

  marks_to : ℕ → List Bool
  marks_to zero = replicate n false
  marks_to (suc m) = set (marks_to m) m (mark m (dec_lt m n))

  marks_length : (m : ℕ) → length (marks_to m) ≡ n
  unfolding marks_to
  marks_length zero = length-replicate n false
  marks_length (suc m) = length-set (marks_to m) m (mark m (dec_lt m n)) ∙ marks_length m

  marks_tell : (m : ℕ) → m ≤ n → (v : ℕ) → v < m → Told (flag (marks_to m) v) (P v)
  unfolding marks_to
  marks_tell zero h v l = absurd (let z : ⊥ = omega arith in z)
  marks_tell (suc m) h v l =
      below_more (λ u. Told (flag (marks_to (suc m)) u) (P u)) m
      (λ u k. rw (get_or-set_other (marks_to m) m u (mark m (dec_lt m n)) false (omega arith)) (marks_tell m (omega arith) u k))
      (rw (get_or-set_same (marks_to m) m (mark m (dec_lt m n)) false (omega (arith, marks_length m))) (here (dec_lt m n)))
      v (omega arith)
    where
      here : (x : Dec (m < n)) → Told (mark m x) (P m)
      here (yes q) = told_tells (d m q)
      here (no q) = absurd (q (omega arith))

  marks_of : (xs : List Bool) × ((v : ℕ) → v < n → Told (flag xs v) (P v))
  marks_of = (marks_to n, marks_tell n (omega arith))

some_layer : {G : Graph} → Wired G → (k most : ℕ) → (layer : Layer) × LayerFrom G k most layer
some_layer {G} w k most =
    let s = stops w k most in
    let f = marks_of G.nodes (λ v h. within? w k s.passes v h) in (
      record { passes = s.passes; lo = 0; hi = 0; queue = []; marks = f.0 },
      record { few = s.few; layered = f.1; going = s.going; ended = s.ended },
    )

pub some_walk : SomeWalk
some_walk t most = go (lines_of t) refl
  where
    go : (x : Lines) → lines_of t ≡ x → (s : Said) × (layer : Layer) × WalksBy x most s layer
    go (fault s) e = (s, empty_layer, (refl, refl))
    go (lines net) e = let l = some_layer (fit_wired net (lined_fit t net e)) 0 most in (value net.nodes, l.0, (refl, l.1))

-- ── One walk ────────────────────────────────────────────────────────────────────────────────

module _ {G : Graph} {k most : ℕ} (a b : Layer) (x : LayerFrom G k most a) (y : LayerFrom G k most b) where
  -- No pass follows one that marks nothing.
  not_less : {a b : Layer} → LayerFrom G k most a → LayerFrom G k most b → ¬ (a.passes < b.passes)
  not_less {a} {b} x y l = x.ended (omega (arith, y.few)) (y.going a.passes l)

  same_passes : a.passes ≡ b.passes
  same_passes = go (dec_lt a.passes b.passes) (dec_lt b.passes a.passes)
    where
      go : Dec (a.passes < b.passes) → Dec (b.passes < a.passes) → a.passes ≡ b.passes
      go (yes l) d = absurd (not_less x y l)
      go (no l) (yes m) = absurd (not_less y x m)
      go (no l) (no m) = omega arith

  same_mark : (v : ℕ) → v < G.nodes → flag a.marks v ≡ flag b.marks v
  same_mark v h = one _ _ _ (x.layered v h) (subst (λ n. Told (flag b.marks v) (FromWithin G k n v)) (sym same_passes) (y.layered v h))
    where
      one : (P : Type 0) (p q : Bool) → Told p P → Told q P → p ≡ q
      one P true true t u = refl
      one P true false t u = absurd (u t)
      one P false true t u = absurd (t u)
      one P false false t u = refl

pub one_walk : OneWalk
one_walk t most s s' layer layer' w w' = go (lines_of t) w w'
  where
    go : (x : Lines) → WalksBy x most s layer → WalksBy x most s' layer'
        → (s ≡ s') × (layer.passes ≡ layer'.passes) × ((n v : ℕ) → s ≡ value n → v < n → flag layer.marks v ≡ flag layer'.marks v)
    go (fault x) p q = let e = p.1 ∙ sym q.1 in (p.0 ∙ sym q.0, ap (λ l. l.passes) e, λ n v f h. ap (λ l. flag l.marks v) e)
    go (lines net) p q =
        (p.0 ∙ sym q.0, same_passes layer layer' p.1 q.1, λ n v f h. same_mark layer layer' p.1 q.1 v (subst (λ m. v < m) (let e : n ≡ net.nodes = cc in e) h))

-- ── What is marked ──────────────────────────────────────────────────────────────────────────

came_of : (t : List ℕ) (net : Netlist) (most : ℕ) (s : Said) (layer : Layer) → lines_of t ≡ lines net → Walks t most s layer → LayerFrom (graph_of net) 0 most layer
came_of t net most s layer e w = (subst (λ x. WalksBy x most s layer) e w).1

pub walk_begins : WalkBegins
walk_begins t net most s layer e w z v h =
    let l = subst (λ n. Told (flag layer.marks v) (FromWithin (graph_of net) 0 n v)) z ((came_of t net most s layer e w).layered v h) in
    mark_tells (λ m. within_none (marked_has l m)) (λ q. has_marked l (within_pin h q))

pub walk_ends : WalkEnds
walk_ends t net most s layer e w k v h =
    let l = came_of t net most s layer e w in
    let f = settled_told (fit_wired net (lined_fit t net e)) (l.ended k) layer.marks l.layered v h in
    mark_tells (λ m. from_input (marked_has f m)) (λ r. has_marked f (input_from r))

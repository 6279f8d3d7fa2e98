-- Stepping runs through the trace: each run of the machine is a trace, and the machine as a function runs to the trace's values.
use mathlib.Core.Path.{◌≡◌, refl, sym, ◌∙◌, ap}
use mathlib.Core.Bool.{Bool, true, false}
use mathlib.Core.List.{List}
use mathlib.Core.Logic.{⊎_elim}
use Prim.Native.Nat.{ℕ, zero, suc, ◌+◌, ◌<◌}
use native.Mathlib.Nat.{eq-or-lt_of_le}
use native.Mathlib.Decide.{ℕ_discrete}
use native.Mathlib.Omega.{arith}
use lib.Dec.{eqb}
use borrow.Author.Tests.{eqb-true, eqb-false, lt-ltb, le-ltb}
use Rattle.theory.specs.Graph.{Graph, Wired}
use Rattle.theory.specs.Walk.{Loop}
use Rattle.theory.specs.Clock.{Regs, seen, gather, sees, Trace, value}
use Rattle.theory.specs.inner.Stepping.{shows_if, edge_shows, Stepping, next, words, step_value}
use Rattle.theory.specs.Step.{holding, one_clock}
use Rattle.theory.proofs.clocks.Seen.{seen_early, seen_late, gather_same}
use Rattle.theory.proofs.clocks.Trace.{clock_induction, same_regs_refl, unique}
use Rattle.theory.proofs.clocks.Value.{value_trace}

module _ (gate : ℕ → List ℕ → ℕ) (G : Graph) (R : Regs) {ins x : ℕ → ℕ → ℕ} {word : ℕ → ℕ → ℕ → ℕ} (steps : Stepping gate G R ins x word) where
  -- Bit k of a word is what will be seen k clocks later.
  pub word_is : (t e k : ℕ) → e < G.edges → k < R.count e → word t e k ≡ seen G R x e (t + k)
  word_is zero e k he hk = steps.begins e k he hk ∙ sym (seen_early G R x e (0 + k) (omega arith) ∙ ap (R.start e) (omega arith))
  word_is (suc t) e k he hk =
      ⊎_elim
      (λ (p : suc k ≡ R.count e). steps.enters t e k he p ∙ sym (seen_late G R x e (suc t + k) t (omega arith)))
      (λ (h : suc k < R.count e). steps.shifts t e k he h ∙ word_is t e (suc k) he h ∙ ap (seen G R x e) (omega arith))
      (eq-or-lt_of_le hk)

  shows_seen : (t e : ℕ) → e < G.edges → edge_shows G R (word t) (λ u. x u t) e ≡ seen G R x e t
  unfolding edge_shows
  shows_seen t e he = go (eqb (R.count e) 0) refl
    where
      go : (b : Bool) → eqb (R.count e) 0 ≡ b → shows_if b G (word t) (λ u. x u t) e ≡ seen G R x e t
      go true p = sym (seen_late G R x e t t (omega (arith, eqb-true (R.count e) 0 p)))
      go false p = word_is t e 0 he (omega (arith, eqb-false (R.count e) 0 p)) ∙ ap (seen G R x e) (omega arith)

  pub steps_trace : Trace gate G R ins x
  unfolding sees
  steps_trace = record {
    at_input = steps.at_input;
    at_gate = λ v t hv n.
        steps.at_gate v t hv n
        ∙ ap (gate (G.kind v)) (gather_same G.dst (edge_shows G R (word t) (λ u. x u t)) (λ e. seen G R x e t) v G.edges (λ e he d. shows_seen t e he));
  }

-- At clock 0 an edge shows its word's bit 0, or its source.
pub shows_first : (G : Graph) (R : Regs) (word x : ℕ → ℕ → ℕ) (e : ℕ) → seen G (holding R word) x e 0 ≡ edge_shows G R word (λ u. x u 0) e
unfolding edge_shows
shows_first G R word x e = go (eqb (R.count e) 0) refl
  where
    go : (b : Bool) → eqb (R.count e) 0 ≡ b → seen G (holding R word) x e 0 ≡ shows_if b G word (λ u. x u 0) e
    go true p = seen_late G (holding R word) x e 0 0 (omega (arith, eqb-true (R.count e) 0 p))
    go false p = seen_early G (holding R word) x e 0 (omega (arith, eqb-false (R.count e) 0 p))

module _ (gate : ℕ → List ℕ → ℕ) (G : Graph) (w : Wired G) (R : Regs) (none : ¬ Loop G R.count) (ins : ℕ → ℕ → ℕ) where
  at_clock : (t : ℕ) → Trace gate G (holding R (words gate G R ins t)) (λ u k. ins u t) (value gate G (holding R (words gate G R ins t)) (λ u k. ins u t))
  at_clock t = value_trace gate G w (holding R (words gate G R ins t)) none (λ u k. ins u t)

  pub run_steps : Stepping gate G R ins (step_value gate G R ins) (words gate G R ins)
  unfolding words next one_clock sees
  run_steps = record {
    begins = λ e k he hk. refl;
    shifts = λ t e k he h. rw (lt-ltb (suc k) (R.count e) h);
    enters = λ t e k he p. rw (le-ltb (suc k) (R.count e) (omega arith));
    at_input = λ v t hv p. (at_clock t).at_input v 0 hv p;
    at_gate = λ v t hv n. (at_clock t).at_gate v 0 hv n ∙ ap (gate (G.kind v)) (gather_same G.dst _ _ v G.edges (λ e he d. shows_first G R (words gate G R ins t) _ e));
  }

  -- Running is stepping from the start values.
  pub run_value : (v t : ℕ) → v < G.nodes → step_value gate G R ins v t ≡ value gate G R ins v t
  run_value = unique gate G w R R (same_regs_refl G R) none (steps_trace gate G R run_steps) (value_trace gate G w R none ins) (λ v t hv p. refl)

-- Values that fit the inputs and the gates in one clock are that clock's values: so code may work them out in any order.
module _ (gate : ℕ → List ℕ → ℕ) (G : Graph) (w : Wired G) (R : Regs) (none : ¬ Loop G R.count) (word : ℕ → ℕ → ℕ) (now x : ℕ → ℕ)
    (at_input : (v : ℕ) → v < G.nodes → G.kind v ≡ 0 → x v ≡ now v)
    (at_gate : (v : ℕ) → v < G.nodes → ¬ (G.kind v ≡ 0) → x v ≡ gate (G.kind v) (gather G.dst (edge_shows G R word x) v G.edges)) where
  shows_same : (y : ℕ → ℕ) (e : ℕ) → (R.count e ≡ 0 → x (G.src e) ≡ y (G.src e)) → edge_shows G R word x e ≡ edge_shows G R word y e
  unfolding edge_shows shows_if
  shows_same y e same = go (eqb (R.count e) 0) refl
    where
      go : (b : Bool) → eqb (R.count e) 0 ≡ b → shows_if b G word x e ≡ shows_if b G word y e
      go true p = same (eqb-true (R.count e) 0 p)
      go false p = refl

  pub clock_values : (v : ℕ) → v < G.nodes → x v ≡ one_clock gate G R word now v
  unfolding one_clock sees
  clock_values v hv = clock_induction G w (holding R word) none (λ v t. t ≡ 0 → x v ≡ y v) step v 0 hv refl
    where
      y : ℕ → ℕ
      y v = value gate G (holding R word) (λ u k. now u) v 0

      Y : Trace gate G (holding R word) (λ u k. now u) (value gate G (holding R word) (λ u k. now u))
      Y = value_trace gate G w (holding R word) none (λ u k. now u)

      step : (v t : ℕ) → v < G.nodes → ((e k : ℕ) → e < G.edges → G.dst e ≡ v → R.count e + k ≡ t → k ≡ 0 → x (G.src e) ≡ y (G.src e)) → t ≡ 0 → x v ≡ y v
      step v t hv ih z = go (ℕ_discrete (G.kind v) 0)
        where
          go : Dec (G.kind v ≡ 0) → x v ≡ y v
          go (yes p) = at_input v hv p ∙ sym (Y.at_input v 0 hv p)
          go (no n) =
              at_gate v hv n
              ∙ ap (gate (G.kind v)) (gather_same G.dst _ _ v G.edges
              (λ e he d. shows_same y e (λ q. ih e 0 he d (omega arith) refl) ∙ sym (shows_first G R word (value gate G (holding R word) (λ u k. now u)) e)))
              ∙ sym (Y.at_gate v 0 hv n)

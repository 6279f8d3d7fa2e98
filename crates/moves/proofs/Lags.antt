-- Lags that agree at the nodes: the edges join nodes, so nothing looks at a lag past them.
--   registers_alike, loop_alike  a walk's registers depend on its edges' counts, and so do loops
--   count_alike, chosen_alike    the new counts, and how many values are chosen
--   regs_alike          the retimed registers
--   legal_alike, least_alike, best_alike, no_start_alike    what is legal, least, taken or without a start stays so
use Prim.Native.Nat.{ℕ, ◌+◌, ◌<◌}
use native.Mathlib.Omega.{arith}
use mathlib.Core.Path.{◌≡◌, refl, sym, ap, ap₂, ◌∙◌}
use mathlib.Core.Bool.{Bool, true, false}
use mathlib.Core.List.{List}
use lib.Dec.{ltb}
use lib.IntN.{ℤ}
use Rattle.theory.specs.Graph.{Graph, Wired}
use Rattle.theory.specs.Walk.{Walk, one, more, registers, Loop}
use Rattle.theory.specs.Clock.{Regs, value}
use Rattle.theory.specs.inner.Registers.{SameRegs}
use Rattle.theory.specs.Lag.{up, down, new_count, Legal, Least}
use Rattle.theory.specs.Move.{move_if, move, quiet, chosen_in, digit, choice_of, Best}
use Rattle.theory.specs.Retimer.{Sound, NoStart, retimed}
use Rattle.theory.proofs.moves.Choose.{choice_number}
use Rattle.theory.proofs.moves.Best.{choice_bit, lag_src, lag_dst, chosen_before, number_lags, best_lags}

-- A walk's registers depend on its edges' counts.
pub registers_alike : {G : Graph} {u v : ℕ} (count count' : ℕ → ℕ) → ((e : ℕ) → e < G.edges → count e ≡ count' e) → (p : Walk G u v)
    → registers count p ≡ registers count' p
unfolding registers
registers_alike count count' h (one l) = refl
registers_alike count count' h (more e l p) = ap₂ ◌+◌ (registers_alike count count' h p) (h e l)

pub loop_alike : {G : Graph} (count count' : ℕ → ℕ) → ((e : ℕ) → e < G.edges → count e ≡ count' e) → Loop G count → Loop G count'
loop_alike count count' h l = record { node = l.node; walk = l.walk; moves = l.moves; bare = sym (registers_alike count count' h l.walk) ∙ l.bare }

module _ (gate : ℕ → List ℕ → ℕ) (G : Graph) (w : Wired G) (R : Regs) (r q : ℕ → ℤ) (same : (v : ℕ) → v < G.nodes → r v ≡ q v) where
  pub count_alike : (e : ℕ) → e < G.edges → new_count G R.count r e ≡ new_count G R.count q e
  count_alike e h = rw (lag_src G w R r q same e h, lag_dst G w R r q same e h)

  pub chosen_alike : chosen_in G R.count r ≡ chosen_in G R.count q
  chosen_alike = chosen_before G w R r q same G.edges (omega arith)

  choice_alike : (c e t : ℕ) → e < G.edges → choice_of G R.count r c e t ≡ choice_of G R.count q c e t
  choice_alike c e t h = ap₂ (λ n p. digit n c (p + t)) chosen_alike (chosen_before G w R r q same e (omega arith))

  start_alike : (c e t : ℕ) → e < G.edges → (retimed gate G R r c).start e t ≡ (retimed gate G R q c).start e t
  unfolding move move_if
  start_alike c e t h =
      ap (λ z. move_if (ltb (t + down z) (up z)) G R r (choice_of G R.count r c) (value gate G R quiet) e t) (lag_dst G w R r q same e h)
      ∙ go (ltb (t + down (q (G.dst e))) (up (q (G.dst e))))
    where
      go : (b : Bool) → move_if b G R r (choice_of G R.count r c) (value gate G R quiet) e t ≡ move_if b G R q (choice_of G R.count q c) (value gate G R quiet) e t
      go true = choice_alike c e t h
      go false = rw (lag_dst G w R r q same e h)

  pub regs_alike : (c : ℕ) → SameRegs G (retimed gate G R r c) (retimed gate G R q c)
  unfolding move
  regs_alike c = record { counts = λ e h. sym (count_alike e h); starts = λ e t h l. sym (start_alike c e t h) }

  pub legal_alike : Legal G R.count r → Legal G R.count q
  legal_alike l = record {
    pinned = λ v h p. sym (same v h) ∙ l.pinned v h p;
    fits = λ e h. rw (← lag_src G w R r q same e h, ← lag_dst G w R r q same e h) (l.fits e h);
  }

  pub least_alike : (delay : ℕ → ℕ) (period : ℕ) → Least G R.count delay period r → Least G R.count delay period q
  least_alike delay period l = record {
    feasible = record {
      legal = legal_alike l.feasible.legal;
      meets = λ u v p z. l.feasible.meets u v p (registers_alike (new_count G R.count r) (new_count G R.count q) count_alike p ∙ z);
    };
    least = λ o f v h. rw (← same v h) (l.least o f v h);
  }

-- The numbers that carry the start are the same, and a choice of bits is a number.
module _ (gate : ℕ → List ℕ → ℕ) (G : Graph) (R : Regs) (ok : Sound gate G R) (r q : ℕ → ℤ)
    (legal : Legal G R.count r) (same : (v : ℕ) → v < G.nodes → r v ≡ q v) where
  legal' : Legal G R.count q
  legal' = legal_alike gate G ok.wired R r q same legal

  pub best_alike : (c : ℕ) → Best gate G R r c → Best gate G R q c
  best_alike = best_lags gate G ok.wired R ok.no_loop r q legal legal' same

  pub no_start_alike : NoStart gate G R r → NoStart gate G R q
  no_start_alike n choice bits carried =
      let t = choice_number gate G ok.wired R ok.no_loop q legal' choice (λ e t h l. bits e t) carried in
      n (choice_of G R.count r t.0) (choice_bit gate G R r t.0) (number_lags gate G ok.wired R ok.no_loop q r legal' legal (λ v l. sym (same v l)) t.0 t.2)

-- A node's count is the number of different runs read from it outward.
--   run_length, run_same, same_run    a run has d + 1 values, and runs of equal length are equal where the values agree
--   Before n k e d      register d of edge e comes before register k of edge n, by edge and then outward
--   Listed n k x        the run x ends in a register before that one
--   Listing n k number  so many different runs do, and they are listed
--   lower, Comes        before register 0 of an edge come the lower edges; what comes before one register comes before another
--   moved, moved_all, listed_none    what comes before one register and another; none before the first
--   shared_is, is_shared    a run is listed exactly where a lower edge shares it
--   listed_register, listed_edge, listed_other    one register more; one edge more, from the node or from another
--   runs_counted
use Prim.Native.Nat.{ℕ, zero, suc, ◌+◌, ◌<◌}
use native.Mathlib.Omega.{arith}
use native.Mathlib.Decide.{ℕ_discrete}
use mathlib.Core.Path.{◌≡◌, refl, sym, ap, ap₂, ◌∙◌, subst}
use mathlib.Core.Logic.{◌⊎◌, inl, inr, ⊎_elim}
use mathlib.Core.Bool.{Bool, true, false, cond}
use mathlib.Core.List.{List, [], ◌∷◌}
use lib.Dec.{eqb}
use lib.ListN.{length, get_or}
use borrow.Author.Tests.{eq-eqb, ne_eqb}
use Rattle.theory.specs.Graph.{Graph}
use Rattle.theory.specs.Clock.{Regs}
use Rattle.theory.specs.Move.{sum}
use Rattle.netlist.proofs.Fits.{clash}
use Rattle.netlist.proofs.Rows.{rows_length, rows_in, joined_same}
use Rattle.rails.specs.Rails.{outward, agreed, shared_below, paid_on}
use Rattle.rails.specs.Theorems.{run, Member, Different, RunsCounted}
use Rattle.rails.proofs.Agreed.{agreed_each, agreed_by}
use Rattle.rails.proofs.Shared.{shares_by, shares_some, shared_by, shared_some}

module _ (R : Regs) where
  -- Runs that are equal end at the same distance, and their values agree.
  pub run_length : (e i d k : ℕ) → run R e d ≡ run R i k → d ≡ k
  run_length e i d k q = omega (arith, sym (rows_length (outward R e) (suc d)) ∙ ap length q ∙ rows_length (outward R i) (suc k))

  pub run_same : (e i d : ℕ) → run R e d ≡ run R i d → agreed (outward R e) (outward R i) (suc d) ≡ true
  run_same e i d q =
      agreed_by (outward R e) (outward R i) (suc d)
      λ j h. sym (rows_in (outward R e) 0 (suc d) j h) ∙ ap (λ l. get_or l j 0) q ∙ rows_in (outward R i) 0 (suc d) j h

  pub same_run : (e i d : ℕ) → agreed (outward R e) (outward R i) (suc d) ≡ true → run R e d ≡ run R i d
  same_run e i d a = joined_same (λ j. outward R e j ∷ []) (λ j. outward R i j ∷ []) (suc d) (λ j h. ap (λ x. x ∷ []) (agreed_each (outward R e) (outward R i) (suc d) a j h))

-- ── Runs in turn ────────────────────────────────────────────────────────────────────────────

module _ (G : Graph) (R : Regs) (u : ℕ) where
  Before : ℕ → ℕ → ℕ → ℕ → Type 0
  Before n k e d = (e < n) ⊎ ((e ≡ n) × (d < k))

  record Listed (n k : ℕ) (x : List ℕ) : Type 0 where
    pub edge : ℕ
    pub distance : ℕ
    pub before : Before n k edge distance
    pub leaves : G.src edge ≡ u
    pub below : distance < R.count edge
    pub is : x ≡ run R edge distance

  record Listing (n k number : ℕ) : Type 0 where
    pub list : List (List ℕ)
    pub different : Different list
    pub each : (x : List ℕ) → Member x list → Listed n k x
    pub every : (x : List ℕ) → Listed n k x → Member x list
    pub many : number ≡ length list

  -- Before register 0 of an edge come the lower edges.
  lower : (n e d : ℕ) → Before n 0 e d → e < n
  unfolding Before
  lower n e d b = ⊎_elim (λ h. h) (λ h. absurd (let z : ⊥ = omega (arith, h.1) in z)) b

  -- The registers that come before one come before another too.
  Comes : ℕ → ℕ → ℕ → ℕ → Type 0
  Comes n k n' k' = (e d : ℕ) → G.src e ≡ u → d < R.count e → Before n k e d → Before n' k' e d

  moved : {n k n' k' : ℕ} → Comes n k n' k' → (x : List ℕ) → Listed n k x → Listed n' k' x
  unfolding Comes
  moved c x y = record { edge = y.edge; distance = y.distance; before = c y.edge y.distance y.leaves y.below y.before; leaves = y.leaves; below = y.below; is = y.is }

  moved_all : {n k n' k' number : ℕ} → Comes n k n' k' → Comes n' k' n k → Listing n k number → Listing n' k' number
  moved_all to from l = record { list = l.list; different = l.different; each = λ x m. moved to x (l.each x m); every = λ x y. l.every x (moved from x y); many = l.many }

  listed_none : Listing 0 0 0
  listed_none = record { list = []; different = tt; each = λ x m. absurd m; every = λ x y. absurd (let z = lower 0 y.edge y.distance y.before in let w : ⊥ = omega arith in w); many = refl }

  -- ── One register ──────────────────────────────────────────────────────────────────────────

  module _ (n k : ℕ) (from : G.src n ≡ u) (there : k < R.count n) where
    -- Of two registers at one distance, on edges from the node, those of a lower edge are listed before.
    shared_is : shared_below G R n k n ≡ true → Listed n k (run R n k)
    unfolding Before
    shared_is h =
        let (i, l, s) = shared_some G R n n k h in
        let a = shares_some G R n i k s in
        record { edge = i; distance = k; before = inl l; leaves = a.0 ∙ from; below = a.1; is = same_run R n i k a.2 }

    is_shared : Listed n k (run R n k) → shared_below G R n k n ≡ true
    unfolding Before
    is_shared y =
        let q = run_length R n y.edge k y.distance y.is in
        let is = subst (λ d. run R n k ≡ run R y.edge d) (sym q) y.is in
        ⊎_elim
        (λ (l : y.edge < n). shared_by G R n n k y.edge l
        (shares_by G R n y.edge k (y.leaves ∙ sym from) (omega (arith, y.below)) (run_same R n y.edge k is)))
        (λ h. absurd (let z : ⊥ = omega (arith, h.1) in z))
        y.before

    later : Comes n k n (suc k)
    unfolding Before Comes
    later e d p h b = ⊎_elim (λ (l : e < n). inl l) (λ l. inr (l.0, omega (arith, l.1))) b

    here : Listed n (suc k) (run R n k)
    unfolding Before
    here = record { edge = n; distance = k; before = inr (refl, omega arith); leaves = from; below = there; is = refl }

    earlier : (x : List ℕ) → Listed n (suc k) x → (x ≡ run R n k) ⊎ Listed n k x
    unfolding Before
    earlier x y = ⊎_elim (λ (l : y.edge < n). inr (old (inl l))) (λ h. go h.0 h.1 (ℕ_discrete y.distance k)) y.before
      where
        old : Before n k y.edge y.distance → Listed n k x
        old b = record { edge = y.edge; distance = y.distance; before = b; leaves = y.leaves; below = y.below; is = y.is }

        go : y.edge ≡ n → y.distance < suc k → Dec (y.distance ≡ k) → (x ≡ run R n k) ⊎ Listed n k x
        go e h (yes z) = inl (y.is ∙ ap₂ (run R) e z)
        go e h (no z) = inr (old (inr (e, omega arith)))

    listed_register : {number : ℕ} → Listing n k number → Listing n (suc k) (number + cond (shared_below G R n k n) 0 1)
    listed_register {number} l = go (shared_below G R n k n) refl
      where
        go : (b : Bool) → shared_below G R n k n ≡ b → Listing n (suc k) (number + cond b 0 1)
        go true q =
            let z : number + 0 ≡ number = omega arith in
            subst (Listing n (suc k)) (sym z)
            (record {
              list = l.list;
              different = l.different;
              each = λ x m. moved later x (l.each x m);
              every = λ x y. ⊎_elim (λ e. l.every x (subst (Listed n k) (sym e) (shared_is q))) (λ o. l.every x o) (earlier x y);
              many = l.many;
            })
        go false q = record {
          list = run R n k ∷ l.list;
          different = (λ m. let z = is_shared (l.each (run R n k) m) in clash (cc), l.different);
          each = λ x m. ⊎_elim (λ e. subst (Listed n (suc k)) (sym e) here) (λ o. moved later x (l.each x o)) m;
          every = λ x y. ⊎_elim (λ e. inl e) (λ o. inr (l.every x o)) (earlier x y);
          many = omega (arith, l.many);
        }

  -- ── One edge ──────────────────────────────────────────────────────────────────────────────

  module _ (n : ℕ) where
    listed_registers : {number : ℕ} → G.src n ≡ u → Listing n 0 number → (k : ℕ) → k < suc (R.count n) → Listing n k (number + sum (λ d. cond (shared_below G R n d n) 0 1) k)
    unfolding sum
    listed_registers {number} from l zero h = subst (Listing n 0) (let z : number ≡ number + 0 = omega arith in z) l
    listed_registers {number} from l (suc k) h =
        let s : ℕ = sum (λ d. cond (shared_below G R n d n) 0 1) k in
        let c : ℕ = cond (shared_below G R n k n) 0 1 in
        subst (Listing n (suc k)) (let z : number + s + c ≡ number + (s + c) = omega arith in z)
        (listed_register n k from (omega arith) (listed_registers from l k (omega arith)))

    listed_edge : {number : ℕ} → G.src n ≡ u → Listing n 0 number → Listing (suc n) 0 (number + paid_on G R n)
    unfolding Before Comes
    listed_edge from l = moved_all to back (listed_registers from l (R.count n) (omega arith))
      where
        to : Comes n (R.count n) (suc n) 0
        to e d p h b = inl (⊎_elim (λ (l : e < n). let z : e < suc n = omega arith in z) (λ l. let z : e < suc n = omega (arith, l.0) in z) b)

        back : Comes (suc n) 0 n (R.count n)
        back e d p h b = go (lower (suc n) e d b) (ℕ_discrete e n)
          where
            go : e < suc n → Dec (e ≡ n) → Before n (R.count n) e d
            go k (yes z) = inr (z, subst (λ j. d < R.count j) z h)
            go k (no z) = inl (omega arith)

    listed_other : {number : ℕ} → ¬ (G.src n ≡ u) → Listing n 0 number → Listing (suc n) 0 number
    unfolding Before Comes
    listed_other other l = moved_all to back l
      where
        to : Comes n 0 (suc n) 0
        to e d p h b = let l = lower n e d b in inl (let z : e < suc n = omega arith in z)

        back : Comes (suc n) 0 n 0
        back e d p h b = go (lower (suc n) e d b) (ℕ_discrete e n)
          where
            go : e < suc n → Dec (e ≡ n) → Before n 0 e d
            go k (yes z) = absurd (other (subst (λ j. G.src j ≡ u) z p))
            go k (no z) = inl (omega arith)

  listed_edges : (n : ℕ) → Listing n 0 (sum (λ e. cond (eqb (G.src e) u) (paid_on G R e) 0) n)
  unfolding sum
  listed_edges zero = listed_none
  listed_edges (suc n) = go (listed_edges n) (ℕ_discrete (G.src n) u)
    where
      so_far : ℕ
      so_far = sum (λ e. cond (eqb (G.src e) u) (paid_on G R e) 0) n

      go : Listing n 0 so_far → Dec (G.src n ≡ u) → Listing (suc n) 0 (so_far + cond (eqb (G.src n) u) (paid_on G R n) 0)
      go l (yes z) = rw (eq-eqb (G.src n) u z) (listed_edge n z l)
      go l (no z) = rw (ne_eqb (G.src n) u z) (subst (Listing (suc n) 0) (let y : so_far ≡ so_far + 0 = omega arith in y) (listed_other n z l))

-- Go over the registers of the node's edges, by edge and outward on each. The run that ends in a register stands on the list exactly where a lower edge shares it: a run of
-- equal length on the same edge is the same run, and runs that are equal agree at all nearer distances. So a register is paid for exactly where its run is put on the list.
pub runs_counted : RunsCounted
unfolding Before
runs_counted G R u =
    let l = listed_edges G R u G.edges in record {
      list = l.list;
      different = l.different;
      each = λ x m. let y = l.each x m in record {
        edge = y.edge;
        distance = y.distance;
        there = lower G R u G.edges y.edge y.distance y.before;
        leaves = y.leaves;
        below = y.below;
        is = y.is;
      };
      every = λ x y. l.every x (record { edge = y.edge; distance = y.distance; before = inl y.there; leaves = y.leaves; below = y.below; is = y.is });
      many = l.many;
    }

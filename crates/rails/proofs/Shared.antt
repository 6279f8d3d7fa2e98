-- What the edges below a number share with an edge: its nearest registers.
--   far_by              by how many of the nearest agree
--   shares_by, shares-other, shares_some    an edge from the same node with a register there shares it where both agree; no other edge does
--   shared_by, shared_some       some edge below n shares it
--   shared_none, shared_other, shared_further    the nearest that are shared, one edge more
--   paid_few, paid_past, paid_none, paid_alone    what is paid for: no more than there are; all but the nearest; none, where all are shared; all, where no lower edge leaves the node
use Prim.Native.Nat.{ℕ, zero, suc, ◌+◌, ◌-◌, ◌<◌, ◌≤◌, min, max}
use native.Mathlib.Omega.{arith}
use native.Mathlib.Numerals.{add-one}
use native.Mathlib.Decide.{ℕ_discrete, dec_lt}
use mathlib.Core.Path.{◌≡◌, refl, sym, ap, ◌∙◌, subst}
use mathlib.Core.Bool.{Bool, true, false, cond}
use lib.Dec.{eqb, ltb}
use borrow.Author.Tests.{ltb-true, eqb-true, eq-eqb, ne_eqb}
use Rattle.std.proofs.lemmas.Bool.{lt-ltb, le-ltb, false_from_ne_true}
use Rattle.theory.specs.Graph.{Graph}
use Rattle.theory.specs.Clock.{Regs}
use Rattle.theory.proofs.numbers.Sums.{sum_same}
use Rattle.netlist.proofs.Fits.{clash, both}
use Rattle.rails.specs.Rails.{outward, agreed, shares, shared_below, paid_on}
use Rattle.rails.specs.inner.Shared.{Further, Shared}
use Rattle.rails.proofs.Agreed.{agreed_each, agreed_by}
use Rattle.rails.proofs.Sums.{sum_ones, sum_all, sum_past}

-- ── Further ─────────────────────────────────────────────────────────────────────────────────

module _ {f : ℕ → ℕ} {w : ℕ} {g : ℕ → ℕ} {x m : ℕ} where
  -- By how many of the nearest agree, s, of as many as both have, n.
  pub far_by : (n s : ℕ) {r : ℕ} → n ≡ min w x → m ≤ n → s ≤ n → r ≡ max m s → ((k : ℕ) → k ≤ n → k ≤ s → agreed f g k ≡ true)
      → ((k : ℕ) → k ≤ n → s < k → agreed f g k ≡ false) → Further f w g x m r
  far_by n s {r} h few t e within past = record {
    far = record {
      low = omega (arith, e);
      within = omega (arith, e);
      agree = λ d a b. (omega (arith, e), within (suc d) (omega (arith, e)) (omega (arith, e)));
    };
    ends = λ k l. past (suc r) (omega (arith, h)) (omega (arith, e));
  }

-- ── One register ────────────────────────────────────────────────────────────────────────────

module _ (G : Graph) (R : Regs) (e : ℕ) where
  abbrev alike : ℕ → ℕ → Bool
  alike i d = agreed (outward R e) (outward R i) (suc d)

  pub shares_by : (i d : ℕ) → G.src i ≡ G.src e → d < R.count i → alike i d ≡ true → shares G R e d i ≡ true
  shares_by i d p h a = let q = eq-eqb (G.src i) (G.src e) p in let k = lt-ltb d (R.count i) h in rw (q, k, a)

  pub shares_some : (i d : ℕ) → shares G R e d i ≡ true → (G.src i ≡ G.src e) × (d < R.count i) × (alike i d ≡ true)
  shares_some i d h =
      let a = both (eqb (G.src i) (G.src e)) _ h in
      let b = both (ltb d (R.count i)) _ a.1 in
      (eqb-true (G.src i) (G.src e) a.0, ltb-true d (R.count i) b.0, (both (alike i d) true b.1).0)

  pub shared_by : (n d i : ℕ) → i < n → shares G R e d i ≡ true → shared_below G R e d n ≡ true
  unfolding shared_below
  shared_by zero d i h s = absurd (omega arith)
  shared_by (suc n) d i h s = go (λ l. shared_by n d i l s) (ℕ_discrete i n) (shares G R e d n) refl
    where
      go : (i < n → shared_below G R e d n ≡ true) → Dec (i ≡ n) → (b : Bool) → shares G R e d n ≡ b → cond b true (shared_below G R e d n) ≡ true
      go before z true q = refl
      go before (yes z) false q = let y : shares G R e d n ≡ true = subst (λ j. shares G R e d j ≡ true) z s in clash (cc)
      go before (no z) false q = before (omega arith)

  pub shared_some : (n d : ℕ) → shared_below G R e d n ≡ true → (i : ℕ) × (i < n) × (shares G R e d i ≡ true)
  unfolding shared_below
  shared_some zero d h = clash (cc)
  shared_some (suc n) d h = go (λ q. shared_some n d q) (shares G R e d n) refl h
    where
      go : (shared_below G R e d n ≡ true → (i : ℕ) × (i < n) × (shares G R e d i ≡ true)) → (b : Bool) → shares G R e d n ≡ b
          → cond b true (shared_below G R e d n) ≡ true → (i : ℕ) × (i < suc n) × (shares G R e d i ≡ true)
      go before true q h = (n, omega arith, q)
      go before false q h = let r = before h in (r.0, omega (arith, r.1), r.2)

  -- ── The nearest ───────────────────────────────────────────────────────────────────────────

  pub shared_none : Shared G R e 0 0
  unfolding shared_below
  shared_none = record { within = omega arith; each = λ d h. sym (le-ltb d 0 (omega arith)) }

  module _ {n m : ℕ} (s : Shared G R e n m) where
    pub shared_other : ¬ (G.src n ≡ G.src e) → Shared G R e (n + 1) m
    unfolding shared_below
    shared_other z = let q = ne_eqb (G.src n) (G.src e) z in rw (add-one n) (record { within = s.within; each = λ d h. rw q (s.each d h) })

    -- What agrees out to some distance agrees nearer, so what edge n shares are nearest registers too, and only those past m need a look.
    -- By cases: shared before, shared with n now, or neither, as already register m' is not.
    pub shared_further : {m' : ℕ} → G.src n ≡ G.src e → Further (outward R e) (R.count e) (outward R n) (R.count n) m m' → Shared G R e (n + 1) m'
    unfolding shared_below
    shared_further {m'} p f = rw (add-one n) (record { within = f.far.within; each = λ d h. go d h (dec_lt d m) (dec_lt d m') })
      where
        differs : (d : ℕ) → d < R.count e → m' ≤ d → shares G R e d n ≡ false
        differs d h k =
            false_from_ne_true (shares G R e d n)
            λ t.
            let b = shares_some n d t in
            let c = agreed_by (outward R e) (outward R n) (suc m') (λ i l. agreed_each (outward R e) (outward R n) (suc d) b.2 i (omega arith)) in
            let z = f.ends (omega arith) (omega (arith, b.1)) in
            clash (cc)

        before : (b : Bool) → cond b true true ≡ true
        before true = refl
        before false = refl

        go : (d : ℕ) → d < R.count e → Dec (d < m) → Dec (d < m') → shared_below G R e d (suc n) ≡ ltb d m'
        go d h (yes a) b =
            let w = s.each d h ∙ lt-ltb d m a in
            rw w (before (shares G R e d n) ∙ sym (lt-ltb d m' (omega (arith, f.far.low))))
        go d h (no a) (yes b) =
            let k = f.far.agree d (omega arith) b in
            let w = shares_by n d p k.0 k.1 in
            ap (λ t. cond t true (shared_below G R e d n)) w ∙ sym (lt-ltb d m' b)
        go d h (no a) (no b) =
            ap (λ t. cond t true (shared_below G R e d n)) (differs d h (omega arith))
            ∙ s.each d h ∙ le-ltb d m (omega arith) ∙ sym (le-ltb d m' (omega arith))

  -- ── What is paid for ──────────────────────────────────────────────────────────────────────

  pub paid_few : paid_on G R e ≤ R.count e
  paid_few = sum_ones (λ d. shared_below G R e d e) (R.count e)

  pub paid_past : {m : ℕ} → Shared G R e e m → paid_on G R e ≡ R.count e - m
  paid_past {m} s =
      sum_same (λ d. cond (shared_below G R e d e) 0 1) (λ d. cond (ltb d m) 0 1) (R.count e) (λ d h. ap (λ t. cond t 0 1) (s.each d h))
      ∙ sum_past m (R.count e)

  -- What edges below n share stays shared, so where these are all registers none is paid for.
  pub paid_none : {n : ℕ} → n ≤ e → Shared G R e n (R.count e) → paid_on G R e ≡ 0
  paid_none {n} l s = paid_past (record { within = omega arith; each = λ d h. stays d h (shared_some n d (s.each d h ∙ lt-ltb d (R.count e) h)) }) ∙ omega arith
    where
      stays : (d : ℕ) → d < R.count e → (i : ℕ) × (i < n) × (shares G R e d i ≡ true) → shared_below G R e d e ≡ ltb d (R.count e)
      stays d h r = shared_by e d r.0 (omega (arith, r.1)) r.2 ∙ sym (lt-ltb d (R.count e) h)

  pub paid_alone : ((i : ℕ) → i < e → ¬ (G.src i ≡ G.src e)) → paid_on G R e ≡ R.count e
  paid_alone alone =
      sum_all (λ d. shared_below G R e d e) (R.count e)
      λ d h. false_from_ne_true (shared_below G R e d e) (λ t. let r = shared_some e d t in alone r.0 r.1 (shares_some r.0 d r.2).0)

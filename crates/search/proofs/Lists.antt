-- Lists of fillings and a choice, and the best of those that were tried.
--   prefers_low, prefers_through     what the search uses of the order of preference: no larger list is preferred; what is not preferred to one, and that not to another, is not to the other
--   list_order          of two lists with one choice, one whose fillings are no larger each is no larger
--   Filled              a number of n digits, which are the first n fillings
--   filled_bit          a filling is a bit
--   filled_none, filled_more    none yet, and one more
--   filled_few, filled_list     their number is small; with the choice behind them they are its list
--   list_ready          the fillings can be read off the cells
--   list_fulfils        where its choice gives what is due, the list of a choice fulfils
--   list_least          and no other list of that choice that fulfils is preferred to it
--   Tried c best        no list whose choice is below c, and that fulfils, is preferred to the best so far, which fulfils
--   tried_on            some more choices, which do not give what is due
--   tried_more          a choice that does, and the better of its list and the best so far
--   tried_end           where no later list is preferred, the best so far is the best of all
-- Why only one list is looked at for each choice: the lists of a choice that fulfil differ in the fillings that nothing asks for, and the one with these 0 is the smallest.
use Prim.Native.Nat.{ℕ, zero, suc, ◌+◌, ◌-◌, ◌*◌, ◌^◌, ◌/◌, ◌%◌, ◌<◌, ◌≤◌}
use native.Mathlib.Omega.{arith}
use native.Mathlib.Nat.{mul-le-mul_left, mul-le-mul_right, suc-mul, div-eq_of_lt}
use native.Mathlib.Numerals.{add-one}
use native.Mathlib.Decide.{ℕ_discrete, dec_lt}
use mathlib.Core.Path.{◌≡◌, refl, sym, subst, ap, ◌∙◌}
use Rattle.std.specs.Prelude.{Option, Some, None}
use mathlib.Core.Logic.{⊎_elim}
use mathlib.Core.List.{List}
use lib.ListN.{length}
use lib.Pow.{pow_pos, pow_mono, pow-add, shr-shr, high, low}
use Rattle.std.proofs.lemmas.List.{get_or_past}
use Rattle.theory.specs.Move.{digit, Prefers}
use Rattle.theory.proofs.numbers.Digits.{digit_last, digit_above}
use Rattle.graph.specs.Columns.{at}
use Rattle.search.specs.inner.Program.{Program, value_at, GivesDues, asked, Fillable, FillsTo, Fulfils, SolvesLists}
use Rattle.search.specs.inner.States.{Valued, filled, ListOf, Better}
use Rattle.search.proofs.Next.{half}
use Rattle.search.proofs.Values.{value_bit}

-- ── The order of preference ─────────────────────────────────────────────────────────────────

pub prefers_low : (c d : ℕ) → c ≤ d → ¬ Prefers d c
unfolding Prefers
prefers_low c d h p = omega arith

pub prefers_through : (a b c : ℕ) → ¬ Prefers a b → ¬ Prefers b c → ¬ Prefers a c
unfolding Prefers
prefers_through a b c h l p = omega arith

-- ── Lists as numbers ────────────────────────────────────────────────────────────────────────

-- By the first m digits.
order_above : (n k a d : ℕ) → a < 2 ^ (n + k) → ((x : ℕ) → x < n → digit (n + k) a x ≤ digit (n + k) d x) → (m : ℕ) → m ≤ n
    → a / 2 ^ (n + k - m) ≤ d / 2 ^ (n + k - m)
order_above n k a d small le zero h = let z : n + k - 0 ≡ n + k = omega arith in rw z (omega (arith, div-eq_of_lt small))
order_above n k a d small le (suc m) h = go (order_above n k a d small le m (omega arith))
  where
    go : a / 2 ^ (n + k - m) ≤ d / 2 ^ (n + k - m) → a / 2 ^ (n + k - suc m) ≤ d / 2 ^ (n + k - suc m)
    go l =
        let z : n + k - m ≡ suc (n + k - suc m) = omega arith in
        omega (arith, (rw z at l), half a (n + k - suc m), half d (n + k - suc m), le m (omega arith))

pub list_order : (n k a d : ℕ) → a < 2 ^ (n + k) → ((x : ℕ) → x < n → digit (n + k) a x ≤ digit (n + k) d x) → a % 2 ^ k ≡ d % 2 ^ k → a ≤ d
list_order n k a d small le e =
    let z : n + k - n ≡ k = omega arith in
    let u = subst (λ j. a / 2 ^ j ≤ d / 2 ^ j) z (order_above n k a d small le n (omega arith)) in
    omega (arith, pow_pos k, mul-le-mul_left (2 ^ k) u)

-- ── Fillings ────────────────────────────────────────────────────────────────────────────────

pub record Filled (fill : List (Option ℕ)) (sig : List ℕ) (n r : ℕ) : Type 0 where
  pub few : r < 2 ^ n
  pub digits : (x : ℕ) → x < n → digit n r x ≡ filled sig (asked fill x)

-- A filling that is asked for has a place.
asked_in : (fill : List (Option ℕ)) (x i : ℕ) → asked fill x ≡ Some i → x < length fill
asked_in fill x i e = go (dec_lt x (length fill))
  where
    go : Dec (x < length fill) → x < length fill
    go (yes h) = h
    go (no n) = absurd (let z : None ≡ Some i = sym (get_or_past fill x None (omega arith)) ∙ e in cc)

pub filled_bit : (sig : List ℕ) (place : Option ℕ) → ((i : ℕ) → place ≡ Some i → at sig (32 + i) ≤ 1) → filled sig place ≤ 1
filled_bit sig (Some i) h = h i refl
filled_bit sig None h = omega arith

module _ {fill : List (Option ℕ)} {sig : List ℕ} where
  pub filled_none : Filled fill sig 0 0
  filled_none = record { few = omega arith; digits = λ x h. absurd (let z : ⊥ = omega arith in z) }

  module _ {n r : ℕ} (s : Filled fill sig n r) where
    pub filled_more : (b : ℕ) → b ≤ 1 → b ≡ filled sig (asked fill n) → Filled fill sig (n + 1) (2 * r + b)
    filled_more b h w = rw (add-one n) (record { few = omega (arith, s.few); digits = λ x l. go x l (ℕ_discrete x n) })
      where
        go : (x : ℕ) → x < suc n → Dec (x ≡ n) → digit (suc n) (2 * r + b) x ≡ filled sig (asked fill x)
        go x l (yes q) = digit_last n x r b q h ∙ w ∙ ap (λ y. filled sig (asked fill y)) (sym q)
        go x l (no q) = digit_above n x r b (omega arith) h ∙ s.digits x (omega arith)

    pub filled_few : (m : ℕ) → n ≤ m → r < 2 ^ m
    filled_few m h = omega (arith, s.few, pow_mono h)

    pub filled_list : (k c : ℕ) → n ≡ length fill → c < 2 ^ k → ListOf k fill sig c (r * 2 ^ k + c)
    filled_list k c e l = record {
      few = omega (arith, ap (λ m. 2 ^ (m + k)) e, pow-add 2 n k, suc-mul r (2 ^ k), mul-le-mul_right (2 ^ k) s.few);
      choice = low r k l;
      digits = λ x h. same x h ∙ s.digits x (omega arith);
    }
      where
        same : (x : ℕ) → x < length fill → digit (length fill + k) (r * 2 ^ k + c) x ≡ digit n r x
        same x h =
            let z : length fill + k - suc x ≡ k + (n - suc x) = omega arith in
            ap (λ j. (r * 2 ^ k + c) / 2 ^ j % 2) z ∙ ap (λ y. y % 2) (sym (shr-shr (r * 2 ^ k + c) k (n - suc x)) ∙ ap (λ y. y / 2 ^ (n - suc x)) (high r k l))

-- ── The list of a choice ────────────────────────────────────────────────────────────────────

module _ {cells k : ℕ} {P : Program} {fill : List (Option ℕ)} (a : Fillable cells k fill) {c p : ℕ} {sig : List ℕ} (v : Valued cells k P c p sig) (whole : cells ≤ p) where
  shown : (x i : ℕ) → asked fill x ≡ Some i → at sig (32 + i) ≡ value_at P k c i
  shown x i e = v.values i (omega (arith, a.cell x i e))

  pub list_ready : (x i : ℕ) → asked fill x ≡ Some i → (32 + i < length sig) × (at sig (32 + i) ≤ 1)
  list_ready x i e = (omega (arith, a.cell x i e, v.size), rw (shown x i e) (value_bit P k c i))

  module _ {list : ℕ} (l : ListOf k fill sig c list) where
    list_reads : (x i : ℕ) → asked fill x ≡ Some i → digit (length fill + k) list x ≡ value_at P k c i
    list_reads x i e = l.digits x (asked_in fill x i e) ∙ ap (filled sig) e ∙ shown x i e

    pub list_fulfils : (due : List ℕ) (total : ℕ) → GivesDues k P due total c → Fulfils k P due total fill list
    list_fulfils due total g = (subst (GivesDues k P due total) (sym l.choice) g, λ x i e. rw l.choice (list_reads x i e))

    pub list_least : (d : ℕ) → d % 2 ^ k ≡ c → FillsTo k P fill d → ¬ Prefers d list
    list_least d e w = prefers_low list d (list_order (length fill) k list d l.few (λ x h. go x h (asked fill x) refl) (l.choice ∙ sym e))
      where
        go : (x : ℕ) → x < length fill → (place : Option ℕ) → asked fill x ≡ place → digit (length fill + k) list x ≤ digit (length fill + k) d x
        go x h (Some i) q = omega (arith, list_reads x i q, w x i q, ap (λ n. value_at P k n i) e)
        go x h None q = omega (arith, l.digits x h, ap (filled sig) q)

-- ── The best of those that were tried ───────────────────────────────────────────────────────

-- There is a best so far, and d is not preferred to it.
pub record Unbeaten (best : Option ℕ) (d : ℕ) : Type 0 where
  pub x : ℕ
  pub is : best ≡ Some x
  pub over : ¬ Prefers d x

pub record Tried (k : ℕ) (P : Program) (due : List ℕ) (total : ℕ) (fill : List (Option ℕ)) (c : ℕ) (best : Option ℕ) : Type 0 where
  pub fulfils : (x : ℕ) → best ≡ Some x → (x < 2 ^ (length fill + k)) × Fulfils k P due total fill x
  pub kept : (d : ℕ) → d < 2 ^ (length fill + k) → d % 2 ^ k < c → Fulfils k P due total fill d → Unbeaten best d

module _ {k : ℕ} {P : Program} {due : List ℕ} {total : ℕ} {fill : List (Option ℕ)} {c : ℕ} {best : Option ℕ} (t : Tried k P due total fill c best) where
  pub tried_on : (n : ℕ) → ((d : ℕ) → c ≤ d → d < n → ¬ GivesDues k P due total d) → Tried k P due total fill n best
  tried_on n dead = record { fulfils = t.fulfils; kept = λ d h l f. go d h l f (dec_lt (d % 2 ^ k) c) }
    where
      go : (d : ℕ) → d < 2 ^ (length fill + k) → d % 2 ^ k < n → Fulfils k P due total fill d → Dec (d % 2 ^ k < c) → Unbeaten best d
      go d h l f (yes q) = t.kept d h q f
      go d h l f (no q) = absurd (dead (d % 2 ^ k) (omega arith) l f.0)

  pub tried_more : {list after : ℕ} → Better best list after → list < 2 ^ (length fill + k) → Fulfils k P due total fill list
      → ((d : ℕ) → d % 2 ^ k ≡ c → FillsTo k P fill d → ¬ Prefers d list) → Tried k P due total fill (suc c) (Some after)
  tried_more {list} {after} b small w least = record {
    fulfils = λ x e. let z : after ≡ x = cc in subst Fits z (⊎_elim (λ q. subst Fits (sym q) (small, w)) (t.fulfils after) b.one);
    kept = λ d h l f. record { x = after; is = refl; over = go d h l f (ℕ_discrete (d % 2 ^ k) c) };
  }
    where
      Fits : ℕ → Type 0
      Fits x = (x < 2 ^ (length fill + k)) × Fulfils k P due total fill x

      go : (d : ℕ) → d < 2 ^ (length fill + k) → d % 2 ^ k < suc c → Fulfils k P due total fill d → Dec (d % 2 ^ k ≡ c) → ¬ Prefers d after
      go d h l f (yes e) = prefers_through d list after (least d e f.1) b.over_list
      go d h l f (no n) =
          let q = t.kept d h (omega arith) f in
          prefers_through d q.x after q.over (b.over_best q.x q.is)

  pub tried_end : ((d : ℕ) → c ≤ d % 2 ^ k → Unbeaten best d) → SolvesLists k P due total fill best
  tried_end later = go best refl
    where
      all : (d : ℕ) → d < 2 ^ (length fill + k) → Fulfils k P due total fill d → Dec (d % 2 ^ k < c) → Unbeaten best d
      all d h f (yes q) = t.kept d h q f
      all d h f (no q) = later d (omega arith)

      go : (b : Option ℕ) → best ≡ b → SolvesLists k P due total fill b
      go (Some x) e =
          let r = t.fulfils x e in (
            r.0,
            r.1,
            λ d h p f. let q = all d h f (dec_lt (d % 2 ^ k) c) in let z : x ≡ q.x = (let y : Some x ≡ Some q.x = sym e ∙ q.is in cc) in q.over (subst (Prefers d) z p),
          )
      go None e = λ d h f. let q = all d h f (dec_lt (d % 2 ^ k) c) in let y : None ≡ Some q.x = sym e ∙ q.is in cc

-- Facts in a row: what a row says is one thing, and it says something.
--   One, Some, Decided    a fact holds of one answer at most; of one; it is known whether of one
--   meet                  two rows that begin alike say one thing
--   else_one, else_some, else_map    of a row, from its members
--   decides, later        the first member's fact decides; where it holds of nothing, the rest does
--   given-.., given-at-.., otherwise_one, stops-.., needs-..    the members
--   no_stop, stopped      a call is not stopped by a reading that refuses nothing; it is by one that refuses
use Prim.Native.Nat.{ℕ, ◌<◌, ◌≤◌}
use native.Mathlib.Omega.{arith}
use native.Mathlib.Decide.{dec_lt}
use mathlib.Core.Path.{◌≡◌, refl, sym, ap, ◌∙◌, subst}
use mathlib.Core.Logic.{◌⊎◌, inl, inr}
use Rattle.netlist.specs.Answer.{Said, value, refused, whole}
use Rattle.netlist.specs.Order.{◌or_else◌, here, past, Given, GivenAt, Otherwise, Stops, Needs}
use Rattle.netlist.proofs.Fits.{clash}

abbrev pub One : (Said → Type 0) → Type 0
One F = (s x : Said) → F s → F x → s ≡ x

abbrev pub Some : (Said → Type 0) → Type 0
Some F = (s : Said) × F s

abbrev pub Decided : (Said → Type 0) → Type 0
Decided F = Some F ⊎ ((s : Said) → ¬ F s)

-- ── Rows ────────────────────────────────────────────────────────────────────────────────────

module _ {F G : Said → Type 0} where
  pub meet : {G' : Said → Type 0} {s x : Said} → One F → (G s → G' x → s ≡ x) → (F or_else G) s → (F or_else G') x → s ≡ x
  meet {s = s} {x} f g (here a) (here b) = f s x a b
  meet {s = s} {x} f g (here a) (past n b) = absurd (n s a)
  meet {s = s} {x} f g (past n a) (here b) = absurd (n x b)
  meet f g (past n a) (past m b) = g a b

  pub else_one : One F → One G → One (F or_else G)
  else_one f g s x = meet f (g s x)

  pub else_some : Decided F → Some G → Some (F or_else G)
  else_some (inl (s, a)) g = (s, here a)
  else_some (inr n) (s, b) = (s, past n b)

  -- What a row says where its first fact holds, and where it does not.
  pub decides : {s x : Said} → One F → F x → (F or_else G) s → s ≡ x
  decides {s} {x} f a (here b) = f s x b a
  decides {s} {x} f a (past n b) = absurd (n x a)

  pub later : (s : Said) → ((x : Said) → ¬ F x) → (F or_else G) s → G s
  later s n (here a) = absurd (n s a)
  later s n (past m b) = b

  -- A row says no other thing where each of its facts is replaced by one that holds when it does.
  pub else_map : {F' G' : Said → Type 0} {s : Said} → ((x : Said) → F x → F' x) → ((x : Said) → F' x → F x) → (G s → G' s) → (F or_else G) s → (F' or_else G') s
  else_map {s = s} to from g (here a) = here (to s a)
  else_map to from g (past n a) = past (λ x h. n x (from x h)) (g a)

-- ── Facts ───────────────────────────────────────────────────────────────────────────────────

pub given_one : (P : Type 0) (x : Said) → One (Given P x)
given_one P x s y (_, a) (_, b) = a ∙ sym b

pub given? : {P : Type 0} (x : Said) → Dec P → Decided (Given P x)
given? x (yes p) = inl (x, (p, refl))
given? x (no n) = inr (λ s g. n g.0)

pub given_map : {P Q : Type 0} {x : Said} → (P → Q) → (s : Said) → Given P x s → Given Q x s
given_map f s (p, e) = (f p, e)

pub given_at_one : {P : ℕ → Type 0} (x : ℕ → Said) → ((n m : ℕ) → P n → P m → n ≡ m) → One (GivenAt P x)
given_at_one x f s y (n, p, a) (m, q, b) = a ∙ ap x (f n m p q) ∙ sym b

pub given_at_map : {P Q : ℕ → Type 0} {x : ℕ → Said} → ((n : ℕ) → P n → Q n) → (s : Said) → GivenAt P x s → GivenAt Q x s
given_at_map f s (n, p, e) = (n, f n p, e)

pub otherwise_one : (x : Said) → One (Otherwise x)
otherwise_one x s y a b = a ∙ sym b

-- ── An earlier refusal ──────────────────────────────────────────────────────────────────────

pub stops_one : (c : Said) → One (Stops c)
stops_one (value n) s x a b = absurd a
stops_one (refused q k p) s x a b = a ∙ sym b

pub stops? : (c : Said) → Decided (Stops c)
stops? (value n) = inr (λ s a. a)
stops? (refused q k p) = inl (refused q k p, refl)

pub no_stop : {c : Said} (n : ℕ) → c ≡ value n → (x : Said) → ¬ Stops c x
no_stop n e x h = subst (λ c. Stops c x) e h

pub stopped : {G : Said → Type 0} {c s : Said} {q k p : ℕ} → c ≡ refused q k p → (Stops c or_else G) s → s ≡ refused q k p
stopped {G} {c} {s} {q} {k} {p} e row = decides (stops_one (refused q k p)) refl (subst (λ c. (Stops c or_else G) s) e row)

-- A row that says a number was not stopped.
pub stops_value : {G : Said → Type 0} (c : Said) {k : ℕ} → (Stops c or_else G) (value k) → (i : ℕ) × (c ≡ value i) × G (value k)
stops_value (value i) (here a) = absurd a
stops_value (value i) (past n b) = (i, refl, b)
stops_value (refused q k p) (here a) = clash (cc)
stops_value (refused q k p) (past n b) = absurd (n (refused q k p) refl)

-- ── Room ────────────────────────────────────────────────────────────────────────────────────

pub needs_one : (n m : ℕ) → One (Needs n m)
needs_one n m = else_one (given_one (m < n) (whole 12)) (otherwise_one (value n))

pub needs_some : (n m : ℕ) → Some (Needs n m)
needs_some n m = else_some (given? (whole 12) (dec_lt m n)) (value n, refl)

pub needs_room : {n m k : ℕ} → n ≤ m → k ≡ n → Needs n m (value k)
needs_room h e = past (λ x g. omega (arith, g.0)) (ap value e)

pub needs_value : {n m k : ℕ} → Needs n m (value k) → (k ≡ n) × (n ≤ m)
needs_value (here (h, e)) = clash (cc)
needs_value {n} {m} (past room e) = (cc, go (dec_lt m n))
  where
    go : Dec (m < n) → n ≤ m
    go (yes h) = absurd (room (whole 12) (h, refl))
    go (no h) = omega arith

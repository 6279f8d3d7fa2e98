-- Digits, and bytes of two digits.
--   clash                        two constructors are never equal: `clash (cc)`
--   within_true                  a test that holds
--   digit_char, char_digit       a digit reads as its value, and is written from it
--   char_small, digit_most       a digit is a byte; a value is at most 16
--   Entered d table              the table of the digits below d; entered_none, entered_more, entered_all
--   digits a b, digits_true      both are digits
--   byte_good, byte_bad, byte_digits, byte_none    a byte's value where both are digits; there is one only there
--   byte_hex, byte_written       a byte is written with the digits that it is read from, and read from those that it is written with
use mathlib.Core.Path.{◌≡◌, refl, ap, sym, ◌∙◌}
use mathlib.Core.Bool.{Bool, true, false, cond}
use mathlib.Core.List.{List, [], ◌∷◌}
use Prim.Native.Nat.{ℕ, ◌+◌, ◌-◌, ◌*◌, ◌/◌, ◌%◌, ◌≤◌, ◌<◌}
use native.Mathlib.Omega.{arith}
use native.Mathlib.Decide.{dec_lt, ℕ_discrete}
use lib.Dec.{ltb, leb}
use lib.ListN.{length, get_or, set, replicate, length-set, get_or-replicate}
use lib.Seq.{get_or-set_same, get_or-set_other}
use borrow.Author.Tests.{ltb-true, leb-true, lt-ltb, le-ltb, le-leb, lt-leb}
use Rattle.std.specs.Prelude.{None, Some}
use Rattle.frame.specs.Frame.{within, digit_of, char_of, hex_of}
use Rattle.frame.specs.inner.Decoded.{Digits, byte_of}

pub clash : {A : Type 0} → ◌≡◌ {A = ℕ} 0 1 → A
clash e = absurd (omega arith)

pub within_true : (low high x : ℕ) → within low high x ≡ true → (low ≤ x) × (x ≤ high)
within_true low high x e = go (leb low x) refl e
  where
    go : (t : Bool) → leb low x ≡ t → cond t (leb x high) false ≡ true → (low ≤ x) × (x ≤ high)
    go true p q = (leb-true low x p, leb-true x high q)
    go false p q = clash (cc)

pub char_digit : (c : ℕ) → digit_of c < 16 → char_of (digit_of c) ≡ c
unfolding digit_of char_of
char_digit c h = go (within 48 57 c) (within 65 70 c) refl refl h
  where
    go : (s t : Bool) → within 48 57 c ≡ s → within 65 70 c ≡ t → cond s (c - 48) (cond t (c - 55) 16) < 16 → char_of (cond s (c - 48) (cond t (c - 55) 16)) ≡ c
    go true t p q h = let w = within_true 48 57 c p in rw (lt-ltb (c - 48) 10 (omega arith)) (omega arith)
    go false true p q h = let w = within_true 65 70 c q in rw (le-ltb (c - 55) 10 (omega arith)) (omega arith)
    go false false p q h = absurd (omega arith)

pub digit_char : (d : ℕ) → d < 16 → digit_of (char_of d) ≡ d
unfolding digit_of char_of
digit_char d h = go (dec_lt d 10)
  where
    go : Dec (d < 10) → digit_of (char_of d) ≡ d
    go (yes l) = rw (lt-ltb d 10 l, le-leb 48 (d + 48) (omega arith), le-leb (d + 48) 57 (omega arith)) (omega arith)
    go (no l) =
        let g : 10 ≤ d = omega arith in
        rw (le-ltb d 10 g, lt-leb (d + 55) 57 (omega arith), le-leb 48 (d + 55) (omega arith), le-leb 65 (d + 55) (omega arith), le-leb (d + 55) 70 (omega arith)) (omega arith)

char_small : (d : ℕ) → d < 16 → char_of d < 256
unfolding char_of
char_small d h = go (ltb d 10)
  where
    go : (t : Bool) → cond t (d + 48) (d + 55) < 256
    go true = omega arith
    go false = omega arith

digit_most : (c : ℕ) → digit_of c ≤ 16
unfolding digit_of
digit_most c = go (within 48 57 c) (within 65 70 c) refl refl
  where
    go : (s t : Bool) → within 48 57 c ≡ s → within 65 70 c ≡ t → cond s (c - 48) (cond t (c - 55) 16) ≤ 16
    go true t p q = omega (arith, within_true 48 57 c p)
    go false true p q = omega (arith, within_true 65 70 c q)
    go false false p q = omega arith

-- ── The table of digits ─────────────────────────────────────────────────────────────────────

-- Each digit below d stands at its byte; every other byte has 16.
pub record Entered (d : ℕ) (table : List ℕ) : Type 0 where
  pub size : length table ≡ 256
  pub values : (c : ℕ) → c < 256 → digit_of c < d → get_or table c 0 ≡ digit_of c
  pub others : (c : ℕ) → c < 256 → d ≤ digit_of c → get_or table c 0 ≡ 16

pub entered_none : Entered 0 (replicate 256 16)
entered_none =
    record {
      size = refl;
      values = λ c h l. absurd (let z : ⊥ = omega arith in z);
      others = λ c h l. get_or-replicate 256 c 16 0 h;
    }

module _ (d : ℕ) (table : List ℕ) (e : Entered d table) where
  pub entered_more : d < 16 → Entered (d + 1) (set table (char_of d) d)
  entered_more h =
      record {
        size = length-set table (char_of d) d ∙ e.size;
        values = λ c b l. go c b (ℕ_discrete c (char_of d)) l;
        others = λ c b l. get_or-set_other table (char_of d) c d 0 (λ q. let z = here c q in let w : ⊥ = omega arith in w) ∙ e.others c b (omega arith);
      }
    where
      -- The byte of d is a digit, of value d.
      here : (c : ℕ) → c ≡ char_of d → digit_of c ≡ d
      here c q = ap digit_of q ∙ digit_char d h

      go : (c : ℕ) → c < 256 → Dec (c ≡ char_of d) → digit_of c < d + 1 → get_or (set table (char_of d) d) c 0 ≡ digit_of c
      go c b (yes q) l = ap (λ x. get_or (set table (char_of d) d) x 0) q ∙ get_or-set_same table (char_of d) d 0 (omega (arith, e.size, char_small d h)) ∙ sym (here c q)
      go c b (no q) l =
          let other : digit_of c ≡ d → ⊥ = λ f. q (sym (char_digit c (omega arith)) ∙ ap char_of f) in
          get_or-set_other table (char_of d) c d 0 q ∙ e.values c b (omega arith)

  pub entered_all : d ≡ 16 → Digits table
  entered_all h = record { size = e.size; values = λ c b. go c b (dec_lt (digit_of c) 16) }
    where
      go : (c : ℕ) → c < 256 → Dec (digit_of c < 16) → get_or table c 0 ≡ digit_of c
      go c b (yes l) = e.values c b (omega arith)
      go c b (no l) = e.others c b (omega arith) ∙ omega (arith, digit_most c)

-- ── A byte of two digits ────────────────────────────────────────────────────────────────────

abbrev pub digits : ℕ → ℕ → Bool
digits a b = cond (ltb (digit_of a) 16) (ltb (digit_of b) 16) false

pub digits_true : (x y : ℕ) → cond (ltb x 16) (ltb y 16) false ≡ true → (x < 16) × (y < 16)
digits_true x y e = go (ltb x 16) refl e
  where
    go : (t : Bool) → ltb x 16 ≡ t → cond t (ltb y 16) false ≡ true → (x < 16) × (y < 16)
    go true p q = (ltb-true x 16 p, ltb-true y 16 q)
    go false p q = clash (cc)

module _ (a b : ℕ) where
  pub byte_good : digit_of a < 16 → digit_of b < 16 → byte_of a b ≡ Some (digit_of a * 16 + digit_of b)
  unfolding byte_of
  byte_good h k = rw (lt-ltb (digit_of a) 16 h, lt-ltb (digit_of b) 16 k)

  pub byte_bad : (digit_of a < 16 → digit_of b < 16 → ⊥) → byte_of a b ≡ None
  unfolding byte_of
  byte_bad h = go (digits a b) refl
    where
      go : (t : Bool) → digits a b ≡ t → cond t (Some (digit_of a * 16 + digit_of b)) None ≡ None
      go true e = let d = digits_true (digit_of a) (digit_of b) e in absurd (h d.0 d.1)
      go false e = refl

  -- There is a byte only where both are digits.
  pub byte_digits : (x : ℕ) → byte_of a b ≡ Some x → (digits a b ≡ true) × (x ≡ digit_of a * 16 + digit_of b)
  unfolding byte_of
  byte_digits x h = go (digits a b) refl h
    where
      go : (t : Bool) → digits a b ≡ t → cond t (Some (digit_of a * 16 + digit_of b)) None ≡ Some x → (digits a b ≡ true) × (x ≡ digit_of a * 16 + digit_of b)
      go true e h = (e, cc)
      go false e h = clash (cc)

  pub byte_none : byte_of a b ≡ None → digits a b ≡ false
  unfolding byte_of
  byte_none h = go (digits a b) refl h
    where
      go : (t : Bool) → digits a b ≡ t → cond t (Some (digit_of a * 16 + digit_of b)) None ≡ None → digits a b ≡ false
      go true e h = clash (cc)
      go false e h = e

  -- A byte that is read is below 256, and is written with the same digits.
  pub byte_hex : (x : ℕ) → byte_of a b ≡ Some x → (x < 256) × (hex_of (x ∷ []) ≡ a ∷ b ∷ [])
  unfolding hex_of
  byte_hex x h =
      let v = byte_digits x h in
      let d = digits_true (digit_of a) (digit_of b) v.0 in
      let e : x / 16 ≡ digit_of a = omega (arith, d, v) in
      let f : x % 16 ≡ digit_of b = omega (arith, d, v) in
      (omega (arith, d, v), rw (e, f, char_digit a d.0, char_digit b d.1))

pub byte_written : (b : ℕ) → b < 256 → byte_of (char_of (b / 16)) (char_of (b % 16)) ≡ Some b
unfolding byte_of
byte_written b h =
    let hi = digit_char (b / 16) (omega arith) in
    let lo = digit_char (b % 16) (omega arith) in
    let e : b / 16 * 16 + b % 16 ≡ b = omega arith in
    rw (hi, lo, lt-ltb (b / 16) 16 (omega arith), lt-ltb (b % 16) 16 (omega arith), e)

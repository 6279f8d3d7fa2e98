-- What a turn of each loop, and each test before it, shows.
--   fill bytes i l      the bytes of a line of which the bytes before the i-th stand in `bytes`, and the others are those of l
use mathlib.Core.Path.{◌≡◌, refl, sym, ◌∙◌, ap}
use mathlib.Core.List.{List, [], ◌∷◌, ◌++◌, append-nil}
use Prim.Native.Nat.{ℕ, zero, suc, ◌+◌, ◌-◌, ◌*◌, ◌≤◌, ◌<◌}
use native.Mathlib.Omega.{arith}
use native.Mathlib.Numerals.{add-one}
use lib.ListN.{length, get_or, take, drop, set, replicate, length-replicate}
use lib.Seq.{sets, sets-eq, drop-cons, take-suc, length-take-le}
use borrow.Author.Tests.{eq-eqb, ne_eqb, le-leb, lt-leb}
use Rattle.std.specs.Prelude.{Option, None, Some}
use Rattle.frame.specs.Frame.{Line, bad, line, with_byte, line_at, of_kind, frame_at, hex_of, line_of, placed}
use Rattle.frame.specs.inner.Decoded.{byte_of, decoded, filled_up, framed_within}
use Rattle.frame.proofs.Laws.{line_more, line_none, line_rest, frame_rest, length_hex, length_line}
use Rattle.theory.proofs.numbers.Stores.{sets_sets}
use Rattle.frame.proofs.Buffers.{placed_room, placed_full}

-- ── Read ────────────────────────────────────────────────────────────────────────────────────

two : (s : List ℕ) (j : ℕ) → j + 1 < length s → drop j s ≡ get_or s j 0 ∷ get_or s (j + 1) 0 ∷ drop (j + 2) s
two s j h =
    let a : j < length s = omega arith in
    let b : suc j < length s = omega arith in
    let f : j + 2 ≡ suc (suc j) = omega arith in
    rw (add-one, f, ← drop-cons s (suc j) 0 b, ← drop-cons s j 0 a)

abbrev pub fill : List ℕ → ℕ → Line → Option (List ℕ)
fill bytes i bad = None
fill bytes i (line cs rest) = Some (sets bytes i cs)

fill_byte : (bytes : List ℕ) (i b : ℕ) (l : Line) → fill bytes i (with_byte b l) ≡ fill (set bytes i b) (suc i) l
fill_byte bytes i b bad = refl
fill_byte bytes i b (line cs rest) = refl

drop_zeros : (k m : ℕ) → k ≤ m → drop {A = ℕ} k (replicate m 0) ≡ replicate (m - k) 0
drop_zeros zero m h = let e : m - 0 ≡ m = omega arith in rw e
drop_zeros (suc k) zero h = absurd (omega arith)
drop_zeros (suc k) (suc m) h = let e : suc m - suc k ≡ m - k = omega arith in rw e (drop_zeros k m (omega arith))

-- Before the first turn.
pub fill_zeros : (m n : ℕ) (l : List ℕ) → n ≤ m → fill (replicate m 0) 0 (line_at n l) ≡ filled_up m (line_at n l)
fill_zeros m n l h = go (line_at n l) refl
  where
    go : (x : Line) → line_at n l ≡ x → fill (replicate m 0) 0 x ≡ filled_up m x
    go bad e = refl
    go (line bs rest) e =
        let s = (line_rest n l bs rest e).0 in
        let f : 0 + length bs ≡ length bs = omega arith in
        ap Some (sets-eq bs (replicate m 0) 0 (rw length-replicate (omega arith)) ∙ rw (f, drop_zeros (length bs) m (omega arith)))

-- Where just the line's bytes have room nothing stands behind them.
pub filled_exact : (k n : ℕ) (l : List ℕ) → filled_up n (frame_at k n l) ≡ decoded (frame_at k n l)
filled_exact k n l = go (frame_at k n l) refl
  where
    go : (x : Line) → frame_at k n l ≡ x → filled_up n x ≡ decoded x
    go bad e = refl
    go (line bs rest) e =
        let f : n - length bs ≡ 0 = omega (arith, (frame_rest k n l bs rest e).0) in
        ap Some (rw f (append-nil bs))

-- A line for an array of m: there is none for more bytes than it has room for.
module _ (m k n : ℕ) (l : List ℕ) where
  pub framed_room : n ≤ m → framed_within m k n l ≡ filled_up m (frame_at k n l)
  unfolding framed_within
  framed_room h = rw (le-leb n m h)

  pub framed_over : m < n → framed_within m k n l ≡ None
  unfolding framed_within
  framed_over h = rw (lt-leb n m h)

-- A turn: two digits more, at place j.
module _ (s : List ℕ) (j n i : ℕ) (h : j + 1 < length s) (m : i < n) where
  shorter : n - i ≡ suc (n - (i + 1))
  shorter = omega arith

  pub turn : (bytes : List ℕ) (x : ℕ) → byte_of (get_or s j 0) (get_or s (j + 1) 0) ≡ Some x
      → fill bytes i (line_at (n - i) (drop j s)) ≡ fill (set bytes i x) (i + 1) (line_at (n - (i + 1)) (drop (j + 2) s))
  turn bytes x k = rw (shorter, two s j h, line_more _ _ x (n - (i + 1)) (drop (j + 2) s) k, fill_byte, add-one i)

  pub turn_none : byte_of (get_or s j 0) (get_or s (j + 1) 0) ≡ None → line_at (n - i) (drop j s) ≡ bad
  turn_none k = rw (shorter, two s j h) (line_none _ _ (n - (i + 1)) (drop (j + 2) s) k)

-- After the last turn.
module _ (s : List ℕ) (j : ℕ) (h : j < length s) where
  pub end_feed : get_or s j 0 ≡ 10 → line_at 0 (drop j s) ≡ line [] (drop (suc j) s)
  unfolding line_at
  end_feed e = rw (drop-cons s j 0, eq-eqb _ 10 e)

  pub end_none : (get_or s j 0 ≡ 10 → ⊥) → line_at 0 (drop j s) ≡ bad
  unfolding line_at
  end_none e = rw (drop-cons s j 0, ne_eqb _ 10 e)

-- A text too short has no line.
pub line_short : (n : ℕ) (l : List ℕ) → length l < 2 * n + 1 → line_at n l ≡ bad
unfolding line_at
line_short zero [] h = refl
line_short zero (c ∷ l) h = absurd (omega arith)
line_short (suc n) [] h = refl
line_short (suc n) (a ∷ []) h = refl
line_short (suc n) (a ∷ b ∷ l) h = go (byte_of a b) refl (line_short n l (omega arith))
  where
    go : (o : Option ℕ) → byte_of a b ≡ o → line_at n l ≡ bad → line_at (suc n) (a ∷ b ∷ l) ≡ bad
    go (Some x) k e = line_more a b x n l k ∙ ap (with_byte x) e
    go None k e = line_none a b n l k

pub frame_short : (k n : ℕ) (l : List ℕ) → length l < 2 * n + 3 → frame_at k n l ≡ bad
unfolding frame_at
frame_short k n l h = rw (line_short (suc n) l (omega arith))

-- The kind, at place j.
module _ (k n j : ℕ) (s : List ℕ) (h : j + 1 < length s) where
  pub kind_same : byte_of (get_or s j 0) (get_or s (j + 1) 0) ≡ Some k → frame_at k n (drop j s) ≡ line_at n (drop (j + 2) s)
  unfolding frame_at
  kind_same e = rw (two s j h, line_more (get_or s j 0) (get_or s (j + 1) 0) k n (drop (j + 2) s) e) (go (line_at n (drop (j + 2) s)))
    where
      go : (l : Line) → of_kind k (with_byte k l) ≡ l
      go bad = refl
      go (line bs rest) = rw (eq-eqb k k refl)

  pub kind_other : (x : ℕ) → byte_of (get_or s j 0) (get_or s (j + 1) 0) ≡ Some x → (x ≡ k → ⊥) → frame_at k n (drop j s) ≡ bad
  unfolding frame_at
  kind_other x l e = rw (two s j h) (ap (of_kind k) (line_more _ _ x n (drop (j + 2) s) l) ∙ other (line_at n (drop (j + 2) s)))
    where
      other : (l : Line) → of_kind k (with_byte x l) ≡ bad
      other bad = refl
      other (line bs rest) = rw (ne_eqb x k e)

  pub kind_none : byte_of (get_or s j 0) (get_or s (j + 1) 0) ≡ None → frame_at k n (drop j s) ≡ bad
  unfolding frame_at
  kind_none e = rw (two s j h) (ap (of_kind k) (line_none _ _ n (drop (j + 2) s) e))

-- ── Written ─────────────────────────────────────────────────────────────────────────────────

hex_append : (xs ys : List ℕ) → hex_of (xs ++ ys) ≡ hex_of xs ++ hex_of ys
unfolding hex_of
hex_append [] ys = refl
hex_append (x ∷ xs) ys = rw (hex_append xs ys)

-- A turn: one byte more.
pub put_more : (bytes l : List ℕ) (at i : ℕ) → i < length bytes
    → sets (sets l at (hex_of (take i bytes))) (at + 2 * i) (hex_of (get_or bytes i 0 ∷ [])) ≡ sets l at (hex_of (take (i + 1) bytes))
put_more bytes l at i h =
    let e : length (hex_of (take i bytes)) ≡ 2 * i = length_hex (take i bytes) ∙ ap (λ n. 2 * n) (length-take-le i bytes (omega arith)) in
    sets_sets (hex_of (take i bytes)) (hex_of (get_or bytes i 0 ∷ [])) l at (at + 2 * i) (rw e)
    ∙ rw (← hex_append, add-one, take-suc bytes i 0 h)

-- The line feed after the digits.
pub put_end : (bs l : List ℕ) (at m : ℕ) → length bs ≡ m → at + (2 * m + 1) ≤ length l
    → set (sets l at (hex_of bs)) (at + 2 * m) 10 ≡ placed l at (line_of bs)
unfolding line_of
put_end bs l at m e h =
    let f : length (hex_of bs) ≡ 2 * m = length_hex bs ∙ ap (λ n. 2 * n) e in
    sets_sets (hex_of bs) (10 ∷ []) l at (at + 2 * m) (rw f)
    ∙ sym (placed_room l at (line_of bs) (omega (arith, length_line bs)))

pub put_full : (bs l : List ℕ) (at m : ℕ) → length bs ≡ m → length l < at + (2 * m + 1) → placed l at (line_of bs) ≡ l
put_full bs l at m e h = placed_full l at (line_of bs) (omega (arith, length_line bs))

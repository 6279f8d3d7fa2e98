-- Laws of lines and frames: what is read is what was written, and nothing else.
--   line_more, line_none         a line by its first two digits
--   line_rest, frame_rest        a line that is read is the line written from its bytes
--   line_written, frame_written  the line written from bytes reads as them
--   frame_drop                   where the next line starts
--   behind z l                   the line l, with z behind what follows it
--   line_longer, frame_longer    a line that is there whole, in a text that goes on
--   length_hex, length_line      lengths
use mathlib.Core.Path.{◌≡◌, refl, sym, ◌∙◌, ap}
use mathlib.Core.Bool.{Bool, true, false, cond}
use mathlib.Core.List.{List, [], ◌∷◌, ◌++◌}
use Prim.Native.Nat.{ℕ, zero, suc, ◌+◌, ◌*◌, ◌≤◌, ◌<◌}
use native.Mathlib.Omega.{arith}
use lib.Dec.{eqb, ltb}
use lib.ListN.{length, drop, length-append, length-drop}
use lib.Seq.{drop_at, drop-drop}
use borrow.Author.Tests.{eqb-true, eq-eqb}
use Rattle.std.specs.Prelude.{Option, None, Some}
use Rattle.frame.specs.Frame.{digit_of, Line, bad, line, with_byte, line_at, of_kind, frame_at, hex_of, line_of}
use Rattle.frame.specs.inner.Decoded.{byte_of}
use Rattle.frame.proofs.Digits.{clash, byte_digits, byte_none, byte_hex, byte_written}
use Rattle.frame.proofs.Numbers.{Bytes}

module _ (a b : ℕ) where
  -- A line that starts with two digits.
  pub line_more : (x n : ℕ) (l : List ℕ) → byte_of a b ≡ Some x → line_at (suc n) (a ∷ b ∷ l) ≡ with_byte x (line_at n l)
  unfolding line_at
  line_more x n l h = let v = byte_digits a b x h in rw (v.0, v.1)

  pub line_none : (n : ℕ) (l : List ℕ) → byte_of a b ≡ None → line_at (suc n) (a ∷ b ∷ l) ≡ bad
  unfolding line_at
  line_none n l h = rw (byte_none a b h)

pub length_hex : (bs : List ℕ) → length (hex_of bs) ≡ 2 * length bs
unfolding hex_of
length_hex [] = refl
length_hex (b ∷ bs) = omega (arith, length_hex bs)

pub length_line : (bs : List ℕ) → length (line_of bs) ≡ 2 * length bs + 1
unfolding line_of
length_line bs = simp (length-append, length_hex) refl

-- A byte in front of a line.
line_cons : (b : ℕ) (bs rest : List ℕ) → line_of (b ∷ bs) ++ rest ≡ hex_of (b ∷ []) ++ (line_of bs ++ rest)
unfolding line_of hex_of
line_cons b bs rest = refl

-- At the front of l stands the line of the n bytes bs; rest follows.
abbrev Front : ℕ → List ℕ → List ℕ → List ℕ → Type 0
Front n l bs rest = (length bs ≡ n) × (Bytes bs × (l ≡ line_of bs ++ rest))

line_end : (c : ℕ) (l bs rest : List ℕ) → line_at zero (c ∷ l) ≡ line bs rest → Front zero (c ∷ l) bs rest
unfolding line_at line_of hex_of Bytes
line_end c l bs rest e = go (eqb c 10) refl e
  where
    go : (t : Bool) → eqb c 10 ≡ t → cond t (line [] l) bad ≡ line bs rest → Front zero (c ∷ l) bs rest
    go true p q =
        let u : [] ≡ bs = cc in
        let v : l ≡ rest = cc in
        rw (← u, ← v) (refl, (tt, ap (λ x. x ∷ l) (eqb-true c 10 p)))
    go false p q = clash (cc)

line_step : (a b n : ℕ) (l bs rest : List ℕ) → ((cs r : List ℕ) → line_at n l ≡ line cs r → Front n l cs r)
    → line_at (suc n) (a ∷ b ∷ l) ≡ line bs rest → Front (suc n) (a ∷ b ∷ l) bs rest
unfolding Bytes
line_step a b n l bs rest next e = go (byte_of a b) refl
  where
    more : (x : ℕ) (m : Line) → line_at n l ≡ m → with_byte x m ≡ line bs rest → byte_of a b ≡ Some x → Front (suc n) (a ∷ b ∷ l) bs rest
    more x bad p q h = clash (cc)
    more x (line cs r) p q h =
        let u : x ∷ cs ≡ bs = cc in
        let v : r ≡ rest = cc in
        let w = next cs r p in
        let b = byte_hex a b x h in
        rw (← u, ← v) (ap suc w.0, ((b.0, w.1.0), rw (line_cons, b.1, ← w.1.1)))

    go : (o : Option ℕ) → byte_of a b ≡ o → Front (suc n) (a ∷ b ∷ l) bs rest
    go (Some x) h = more x (line_at n l) refl (sym (line_more a b x n l h) ∙ e) h
    go None h = let w = line_none a b n l h in clash (cc)

-- A line that is read is the line written from its bytes.
pub line_rest : (n : ℕ) (l bs rest : List ℕ) → line_at n l ≡ line bs rest → (length bs ≡ n) × (Bytes bs × (l ≡ line_of bs ++ rest))
unfolding line_at
line_rest zero [] bs rest e = clash (cc)
line_rest zero (c ∷ l) bs rest e = line_end c l bs rest e
line_rest (suc n) [] bs rest e = clash (cc)
line_rest (suc n) (a ∷ []) bs rest e = clash (cc)
line_rest (suc n) (a ∷ b ∷ l) bs rest e = line_step a b n l bs rest (line_rest n l) e

-- The line written from bytes reads as them, whatever follows.
pub line_written : (bs post : List ℕ) → Bytes bs → line_at (length bs) (line_of bs ++ post) ≡ line bs post
unfolding line_at line_of hex_of Bytes
line_written [] post h = refl
line_written (b ∷ bs) post h =
    let e = byte_written b h.0 in
    line_more _ _ b (length bs) (line_of bs ++ post) e ∙ rw (line_written bs post h.1)

-- The same with a kind in front.
pub frame_rest : (k n : ℕ) (l bs rest : List ℕ) → frame_at k n l ≡ line bs rest → (length bs ≡ n) × (Bytes bs × (l ≡ line_of (k ∷ bs) ++ rest))
unfolding frame_at Bytes
frame_rest k n l bs rest e = go (line_at (suc n) l) refl e
  where
    kind : (b : ℕ) (cs r : List ℕ) (t : Bool) → line_at (suc n) l ≡ line (b ∷ cs) r → eqb b k ≡ t → cond t (line cs r) bad ≡ line bs rest
        → (length bs ≡ n) × (Bytes bs × (l ≡ line_of (k ∷ bs) ++ rest))
    kind b cs r true p q f =
        let u : cs ≡ bs = cc in
        let v : r ≡ rest = cc in
        let w = line_rest (suc n) l (b ∷ cs) r p in
        rw (← u, ← v, ← eqb-true b k q) (omega (arith, w.0), (w.1.0.1, w.1.1))
    kind b cs r false p q f = clash (cc)

    go : (m : Line) → line_at (suc n) l ≡ m → of_kind k m ≡ line bs rest → (length bs ≡ n) × (Bytes bs × (l ≡ line_of (k ∷ bs) ++ rest))
    go bad p q = clash (cc)
    go (line [] r) p q = clash (cc)
    go (line (b ∷ cs) r) p q = kind b cs r (eqb b k) p refl q

pub frame_written : (k : ℕ) (bs post : List ℕ) → k < 256 → Bytes bs → frame_at k (length bs) (line_of (k ∷ bs) ++ post) ≡ line bs post
unfolding frame_at Bytes
frame_written k bs post h b = rw (line_written (k ∷ bs) post (h, b), eq-eqb k k refl)

-- Where the next line starts, and that the text reaches so far.
pub frame_drop : (k n at : ℕ) (t bs rest : List ℕ) → frame_at k n (drop at t) ≡ line bs rest
    → (rest ≡ drop (at + (2 * n + 3)) t) × (at + (2 * n + 3) ≤ length t)
frame_drop k n at t bs rest e =
    let w = frame_rest k n (drop at t) bs rest e in
    let m : length (line_of (k ∷ bs)) ≡ 2 * n + 3 = length_line (k ∷ bs) ∙ omega (arith, w.0) in (
      sym (drop_at (line_of (k ∷ bs)) rest (2 * n + 3) m) ∙ ap (drop (2 * n + 3)) (sym w.1.1) ∙ drop-drop (2 * n + 3) at t,
      omega (arith, m, simp (length-append, length-drop) at (ap length w.1.1)),
    )

-- What stands further on decides nothing of a line that is there whole.
abbrev pub behind : List ℕ → Line → Line
behind z bad = bad
behind z (line bs l) = line bs (l ++ z)

pub line_longer : (n : ℕ) (l z : List ℕ) → 2 * n + 1 ≤ length l → line_at n (l ++ z) ≡ behind z (line_at n l)
unfolding line_at
line_longer zero [] z h = absurd (omega arith)
line_longer zero (c ∷ l) z h = go (eqb c 10)
  where
    go : (b : Bool) → cond b (line [] (l ++ z)) bad ≡ behind z (cond b (line [] l) bad)
    go true = refl
    go false = refl
line_longer (suc n) [] z h = absurd (omega arith)
line_longer (suc n) (a ∷ []) z h = absurd (omega arith)
line_longer (suc n) (a ∷ b ∷ l) z h = go (cond (ltb (digit_of a) 16) (ltb (digit_of b) 16) false) (line_longer n l z (omega arith))
  where
    byte : ℕ
    byte = digit_of a * 16 + digit_of b

    with : (x : Line) → with_byte byte (behind z x) ≡ behind z (with_byte byte x)
    with bad = refl
    with (line bs r) = refl

    go : (t : Bool) → line_at n (l ++ z) ≡ behind z (line_at n l) → cond t (with_byte byte (line_at n (l ++ z))) bad ≡ behind z (cond t (with_byte byte (line_at n l)) bad)
    go true e = ap (with_byte byte) e ∙ with (line_at n l)
    go false e = refl

pub frame_longer : (k n : ℕ) (l z : List ℕ) → 2 * n + 3 ≤ length l → frame_at k n (l ++ z) ≡ behind z (frame_at k n l)
unfolding frame_at
frame_longer k n l z h = ap (of_kind k) (line_longer (suc n) l z (omega arith)) ∙ go (line_at (suc n) l)
  where
    kind : (b : Bool) (bs r : List ℕ) → cond b (line bs (r ++ z)) bad ≡ behind z (cond b (line bs r) bad)
    kind true bs r = refl
    kind false bs r = refl

    go : (x : Line) → of_kind k (behind z x) ≡ behind z (of_kind k x)
    go bad = refl
    go (line [] r) = refl
    go (line (b ∷ bs) r) = kind (eqb b k) bs r

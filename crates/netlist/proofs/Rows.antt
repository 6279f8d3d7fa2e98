-- Rows of a record and lines of a text, one more at a time.
--   rows_to_in, rows_to_past, rows_to_is  a column's rows; that a column with 0 past its n-th row is one
--   front_rows          the first rows of a column, and 0 in the others, are one
--   set_past            a column is 0 past its rows after one more is set
--   rows_length, rows_in, rows_at    n rows of one member each: how many there are; the i-th, whatever stands past them
--   joined_same         the joined lines depend on the lines that are joined
--   joined_split        a line and what stands before and after it
use Prim.Native.Nat.{ℕ, zero, suc, ◌<◌, ◌≤◌}
use native.Mathlib.Omega.{arith}
use native.Mathlib.Decide.{ℕ_discrete, dec_lt}
use mathlib.Core.Path.{◌≡◌, refl, sym, ap, ap₂, ◌∙◌}
use mathlib.Core.List.{List, [], ◌∷◌, ◌++◌, append_assoc, append-nil}
use lib.ListN.{length, get_or, set, take, drop, replicate, length-append, length-set, length-replicate, get_or-replicate, get_or-append, get_or-eq_default}
use lib.Seq.{drop-cons, take-suc, length-take-le, get_or_at, get_or-set_other, ext_get_or}
use Rattle.std.proofs.lemmas.List.{set_at}
use Rattle.graph.proofs.Fills.{fill_more}
use Rattle.netlist.specs.Net.{zeros}
use Rattle.netlist.specs.Write.{joined}
use Rattle.netlist.specs.inner.Record.{rows_to}

-- ── Columns ─────────────────────────────────────────────────────────────────────────────────

pub length_zeros : (m : ℕ) → length (zeros m) ≡ m
unfolding zeros
length_zeros m = length-replicate m 0

pub zeros_at : (m i : ℕ) → get_or (zeros m) i 0 ≡ 0
unfolding zeros
zeros_at m i = go (dec_lt i m)
  where
    go : Dec (i < m) → get_or (zeros m) i 0 ≡ 0
    go (yes h) = get_or-replicate m i 0 0 h
    go (no h) = get_or-eq_default (replicate m 0) 0 (omega (arith, length-replicate {A = ℕ} m 0))

pub set_past : (xs : List ℕ) (n a : ℕ) → ((i : ℕ) → n ≤ i → get_or xs i 0 ≡ 0) → (i : ℕ) → suc n ≤ i → get_or (set xs n a) i 0 ≡ 0
set_past xs n a k i l = get_or-set_other xs n i a 0 (omega arith) ∙ k i (omega arith)

pub length_rows_to : (m : ℕ) (f : ℕ → ℕ) (n : ℕ) → length (rows_to m f n) ≡ m
unfolding rows_to
length_rows_to m f zero = length_zeros m
length_rows_to m f (suc n) = length-set (rows_to m f n) n (f n) ∙ length_rows_to m f n

pub rows_to_in : (m : ℕ) (f : ℕ → ℕ) (n : ℕ) → n ≤ m → (i : ℕ) → i < n → get_or (rows_to m f n) i 0 ≡ f i
unfolding rows_to
rows_to_in m f zero h i l = absurd (omega arith)
rows_to_in m f (suc n) h i l = fill_more f (rows_to m f n) n (f n) (omega (arith, length_rows_to m f n)) refl (rows_to_in m f n (omega arith)) i (omega arith)

pub rows_to_past : (m : ℕ) (f : ℕ → ℕ) (n i : ℕ) → n ≤ i → get_or (rows_to m f n) i 0 ≡ 0
unfolding rows_to
rows_to_past m f zero i h = zeros_at m i
rows_to_past m f (suc n) i h = set_past (rows_to m f n) n (f n) (rows_to_past m f n) i h

pub rows_to_is : (m n : ℕ) (xs : List ℕ) → length xs ≡ m → n ≤ m → ((i : ℕ) → n ≤ i → get_or xs i 0 ≡ 0) → rows_to m (λ i. get_or xs i 0) n ≡ xs
rows_to_is m n xs q h past = ext_get_or 0 (rows_to m f n) xs (length_rows_to m f n ∙ sym q) (λ i l. go i (dec_lt i n))
  where
    f : ℕ → ℕ
    f i = get_or xs i 0

    go : (i : ℕ) → Dec (i < n) → get_or (rows_to m f n) i 0 ≡ get_or xs i 0
    go i (yes l) = rows_to_in m f n h i l
    go i (no l) = rows_to_past m f n i (omega arith) ∙ sym (past i (omega arith))

-- The front of a column, and 0 in the others.
pub front_rows : (m n : ℕ) (xs : List ℕ) → length xs ≡ m → n ≤ m → take n xs ++ drop n (replicate m 0) ≡ rows_to m (λ i. get_or xs i 0) n
unfolding rows_to zeros
front_rows m zero xs q h = refl
front_rows m (suc n) xs q h =
    let l : n < length xs = omega arith in
    let z : n < length (replicate {A = ℕ} m 0) = simp length-replicate (omega arith) in
    let a = get_or xs n 0 in
    let rest : List ℕ = drop (suc n) (replicate m 0) in
    ap (λ r. r ++ rest) (take-suc xs n 0 l) ∙ append_assoc (take n xs) (a ∷ []) rest
    ∙ sym (ap (λ r. set r n a) (sym (front_rows m n xs q (omega arith)) ∙ ap (λ r. take n xs ++ r) (drop-cons (replicate m 0) n 0 z))
    ∙ set_at (take n xs) (get_or (replicate m 0) n 0) rest a n (length-take-le n xs (omega arith)))

-- ── Lines ───────────────────────────────────────────────────────────────────────────────────

pub joined_same : (f g : ℕ → List ℕ) (n : ℕ) → ((i : ℕ) → i < n → f i ≡ g i) → joined f n ≡ joined g n
unfolding joined
joined_same f g zero h = refl
joined_same f g (suc n) h = ap₂ ◌++◌ (joined_same f g n (λ i l. h i (omega arith))) (h n (omega arith))

pub joined_split : {A : Type 0} (f : ℕ → List A) (n v : ℕ) → v < n → (rest : List A) × (joined f n ≡ joined f v ++ (f v ++ rest))
unfolding joined
joined_split f zero v h = absurd (omega arith)
joined_split {A} f (suc n) v h = go (ℕ_discrete v n) (joined_split f n v)
  where
    go : Dec (v ≡ n) → (v < n → (rest : List A) × (joined f n ≡ joined f v ++ (f v ++ rest))) → (rest : List A) × (joined f (suc n) ≡ joined f v ++ (f v ++ rest))
    go (yes e) r = ([], rw e (simp append-nil))
    go (no e) r = let s = r (omega arith) in (s.0 ++ f n, ap (λ l. l ++ f n) s.1 ∙ simp append_assoc)

-- ── Rows of one member each, of any kind ────────────────────────────────────────────────────

module _ {A : Type 0} (f : ℕ → A) where
  pub rows_length : (n : ℕ) → length (joined (λ i. f i ∷ []) n) ≡ n
  unfolding joined
  rows_length zero = refl
  rows_length (suc n) = length-append (joined (λ i. f i ∷ []) n) (f n ∷ []) ∙ omega (arith, rows_length n)

  pub rows_in : (d : A) (n i : ℕ) → i < n → get_or (joined (λ i. f i ∷ []) n) i d ≡ f i
  rows_in d n i h = let s = joined_split (λ i. f i ∷ []) n i h in ap (λ l. get_or l i d) s.1 ∙ get_or_at (joined (λ i. f i ∷ []) i) (f i) s.0 d i (rows_length i)

  pub rows_at : (d : A) (n i : ℕ) (past : List A) → i < n → get_or (joined (λ i. f i ∷ []) n ++ past) i d ≡ f i
  rows_at d n i past h = get_or-append (joined (λ i. f i ∷ []) n) past d i (omega (arith, rows_length n)) ∙ rows_in d n i h

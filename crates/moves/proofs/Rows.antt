-- Rows of a table, of any kind, and the columns of 1,024 rows that a moved netlist has.
--   rows_same           rows depend on what stands in them
--   rows_more           one more row put in
--   column_length, column_in, column_past, column_is, column_same    so of a column, which is 0 past its n-th row
use Prim.Native.Nat.{ℕ, zero, suc, ◌+◌, ◌-◌, ◌<◌, ◌≤◌}
use native.Mathlib.Omega.{arith}
use native.Mathlib.Decide.{dec_lt}
use mathlib.Core.Path.{◌≡◌, refl, sym, ap, ap₂, ◌∙◌}
use mathlib.Core.List.{List, [], ◌∷◌, ◌++◌, append_assoc}
use lib.ListN.{length, get_or, set, drop, length-append}
use lib.Seq.{drop-cons, set_at, get_or-append-add, ext_get_or}
use Rattle.netlist.specs.Net.{zeros}
use Rattle.netlist.specs.Write.{joined}
use Rattle.netlist.proofs.Rows.{length_zeros, zeros_at, rows_length, rows_at}
use Rattle.moves.specs.Moved.{column}

module _ {A : Type 0} where
  pub rows_same : (f g : ℕ → A) (n : ℕ) → ((i : ℕ) → i < n → f i ≡ g i) → joined (λ i. f i ∷ []) n ≡ joined (λ i. g i ∷ []) n
  unfolding joined
  rows_same f g zero h = refl
  rows_same f g (suc n) h = ap₂ (λ l x. l ++ (x ∷ [])) (rows_same f g n (λ i l. h i (omega arith))) (h n (omega arith))

  -- One more row put into a list of which the first n are rows.
  pub rows_more : (f : ℕ → A) (n : ℕ) (old : List A) → n < length old → set (joined (λ i. f i ∷ []) n ++ drop n old) n (f n) ≡ joined (λ i. f i ∷ []) (suc n) ++ drop (suc n) old
  unfolding joined
  rows_more f n old h =
      let xs = joined (λ i. f i ∷ []) n in
      ap (λ l. set (xs ++ l) n (f n)) (drop-cons old n (f n) h) ∙ set_at xs (get_or old n (f n)) (drop (suc n) old) (f n) n (rows_length f n) ∙ sym (append_assoc xs (f n ∷ []) (drop (suc n) old))

module _ (f : ℕ → ℕ) (n : ℕ) (h : n ≤ 1024) where
  pub column_length : length (column f n) ≡ 1024
  column_length = length-append (joined (λ i. f i ∷ []) n) (zeros (1024 - n)) ∙ omega (arith, rows_length f n, length_zeros (1024 - n))

  pub column_in : (i : ℕ) → i < n → get_or (column f n) i 0 ≡ f i
  column_in i l = rows_at f 0 n i (zeros (1024 - n)) l

  pub column_past : (i : ℕ) → n ≤ i → get_or (column f n) i 0 ≡ 0
  column_past i l =
      let xs = joined (λ i. f i ∷ []) n in
      let e : i ≡ length xs + (i - n) = omega (arith, rows_length f n) in
      ap (λ j. get_or (xs ++ zeros (1024 - n)) j 0) e ∙ get_or-append-add xs (zeros (1024 - n)) (i - n) 0 ∙ zeros_at (1024 - n) (i - n)

-- A column that has these rows, and 0 past them, is this one.
pub column_is : (f : ℕ → ℕ) (n : ℕ) → n ≤ 1024 → (xs : List ℕ) → length xs ≡ 1024 → ((i : ℕ) → i < n → get_or xs i 0 ≡ f i) → ((i : ℕ) → n ≤ i → get_or xs i 0 ≡ 0) → column f n ≡ xs
column_is f n h xs q a b = ext_get_or 0 (column f n) xs (column_length f n h ∙ sym q) (λ i l. go i (dec_lt i n))
  where
    go : (i : ℕ) → Dec (i < n) → get_or (column f n) i 0 ≡ get_or xs i 0
    go i (yes l) = column_in f n h i l ∙ sym (a i l)
    go i (no l) = column_past f n h i (omega arith) ∙ sym (b i (omega arith))

pub column_same : (f g : ℕ → ℕ) (n : ℕ) → ((i : ℕ) → i < n → f i ≡ g i) → column f n ≡ column g n
column_same f g n h = ap (λ l. l ++ zeros (1024 - n)) (rows_same f g n h)

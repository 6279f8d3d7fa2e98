-- Lists that are joined, and lists of bits.
--   before_hit, before_miss    how many of a kind stand before the next node
--   before_less         a node of the kind has a place among all of that kind
--   joined_first        joined lists, the first apart
--   rows_past           what stands past n rows of one number each
--   bits_at, bits_take, bits_drop    a member of a list of bits is 0 or 1; its parts are lists of bits
use Prim.Native.Nat.{ℕ, zero, suc, ◌+◌, ◌-◌, ◌<◌, ◌≤◌}
use native.Mathlib.Omega.{arith}
use native.Mathlib.Decide.{ℕ_discrete}
use mathlib.Core.Path.{◌≡◌, refl, sym, ap, ◌∙◌}
use mathlib.Core.Bool.{true}
use mathlib.Core.List.{List, [], ◌∷◌, ◌++◌, append_assoc, append-nil}
use lib.Dec.{leb}
use lib.ListN.{length, get_or, take, drop, length-append}
use lib.Seq.{drop-append-add, drop-drop}
use borrow.Author.Tests.{leb-true}
use Rattle.theory.proofs.clocks.Seen.{gather_hit, gather_miss}
use Rattle.netlist.specs.declared.Netlist.{Netlist}
use Rattle.netlist.specs.Net.{graph_of}
use Rattle.netlist.specs.Write.{joined}
use Rattle.netlist.proofs.Rows.{rows_length}
use Rattle.netlist.proofs.Fits.{both}
use Rattle.simulate.specs.Clock.{earlier}
use Rattle.simulate.specs.Step.{only_bits}

module _ (net : Netlist) (k : ℕ) where
  pub before_hit : (v : ℕ) → (graph_of net).kind v ≡ k → earlier net k (suc v) ≡ suc (earlier net k v)
  unfolding earlier
  before_hit v q = ap length (gather_hit (graph_of net).kind (λ u. u) k v q) ∙ simp length-append (omega arith)

  pub before_miss : (v : ℕ) → ¬ ((graph_of net).kind v ≡ k) → earlier net k (suc v) ≡ earlier net k v
  unfolding earlier
  before_miss v q = ap length (gather_miss (graph_of net).kind (λ u. u) k v q)

  pub before_less : (v n : ℕ) → (graph_of net).kind v ≡ k → v < n → earlier net k v < earlier net k n
  before_less v zero q h = absurd (omega arith)
  before_less v (suc n) q h = go (ℕ_discrete v n) (ℕ_discrete ((graph_of net).kind n) k) (before_less v n q)
    where
      go : Dec (v ≡ n) → Dec ((graph_of net).kind n ≡ k) → (v < n → earlier net k v < earlier net k n) → earlier net k v < earlier net k (suc n)
      go (yes e) d less = omega (arith, before_hit v q, ap (λ i. earlier net k (suc i)) e)
      go (no e) (yes p) less = omega (arith, before_hit n p, less (omega arith))
      go (no e) (no p) less = omega (arith, before_miss n p, less (omega arith))

-- ── Joined ──────────────────────────────────────────────────────────────────────────────────

pub joined_first : (f : ℕ → List ℕ) (n : ℕ) → joined f (suc n) ≡ f 0 ++ joined (λ i. f (suc i)) n
unfolding joined
joined_first f zero = sym (append-nil (f 0))
joined_first f (suc n) = ap (λ l. l ++ f (suc n)) (joined_first f n) ∙ append_assoc (f 0) (joined (λ i. f (suc i)) n) (f (suc n))

-- The first n are rows, and the others are those of the list.
pub rows_past : (f : ℕ → ℕ) (n m : ℕ) (past : List ℕ) → n ≤ m → drop m (joined (λ i. f i ∷ []) n ++ drop n past) ≡ drop m past
rows_past f n m past h =
    let xs = joined (λ i. f i ∷ []) n in
    let e : m ≡ length xs + (m - n) = omega (arith, rows_length f n) in
    let q : n + (m - n) ≡ m = omega arith in
    ap (λ i. drop i (xs ++ drop n past)) e ∙ drop-append-add xs (drop n past) (m - n) ∙ drop-drop (m - n) n past ∙ ap (λ i. drop i past) q

-- ── Bits ────────────────────────────────────────────────────────────────────────────────────

pub bits_at : (l : List ℕ) (i : ℕ) → only_bits l ≡ true → get_or l i 0 ≤ 1
unfolding only_bits
bits_at [] i h = omega arith
bits_at (b ∷ l) zero h = leb-true b 1 (both (leb b 1) (only_bits l) h).0
bits_at (b ∷ l) (suc i) h = bits_at l i (both (leb b 1) (only_bits l) h).1

pub bits_take : (n : ℕ) (l : List ℕ) → only_bits l ≡ true → only_bits (take n l) ≡ true
unfolding only_bits
bits_take zero l h = refl
bits_take (suc n) [] h = refl
bits_take (suc n) (b ∷ l) h = let p = both (leb b 1) (only_bits l) h in rw p.0 (bits_take n l p.1)

pub bits_drop : (n : ℕ) (l : List ℕ) → only_bits l ≡ true → only_bits (drop n l) ≡ true
unfolding only_bits
bits_drop zero l h = h
bits_drop (suc n) [] h = refl
bits_drop (suc n) (b ∷ l) h = bits_drop n l (both (leb b 1) (only_bits l) h).1

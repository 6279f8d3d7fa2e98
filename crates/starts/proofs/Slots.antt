-- Where in the ring the value stands that an edge shows.
--   empty_is            the empty ring
--   slot_early, slot_late    among the two behind the rows, or in its source's column
--   slot_in             in the ring
--   slot_turn, edge_turn    past the start values, in the next clock a row further
--   puts_more           the slots put at the places of one node, a place at a time
use Prim.Native.Nat.{ℕ, ◌+◌, ◌-◌, ◌<◌, ◌≤◌}
use native.Mathlib.Omega.{arith}
use native.Mathlib.Decide.{ℕ_discrete, dec_lt}
use mathlib.Core.Path.{◌≡◌, sym, subst, ap, ◌∙◌}
use mathlib.Core.Logic.{◌⊎◌, inl, inr}
use mathlib.Core.List.{List}
use lib.ListN.{length, set, replicate, length-replicate}
use lib.Seq.{get_or-set_same, get_or-set_other}
use borrow.Author.Tests.{lt-ltb, le-ltb}
use Rattle.graph.specs.Columns.{at, bit}
use Rattle.netlist.specs.declared.Netlist.{Netlist}
use Rattle.netlist.specs.Net.{zeros}
use Rattle.netlist.proofs.Rows.{zeros_at}
use Rattle.starts.specs.inner.Ring.{row, NothingYet, slot_of, edge_slot, further, Puts, EdgeRows}

-- Told of any length, so that no list of that length is written out.
pub empty_is : (n : ℕ) → n ≡ 32770 → NothingYet (set (replicate n 0) 32769 1)
unfolding zeros
empty_is n q = record {
  zero_all = λ k h. get_or-set_other (replicate n 0) 32769 k 1 0 (let z : ¬ (k ≡ 32769) = λ y. omega arith in z) ∙ zeros_at n k;
  one = get_or-set_same (replicate n 0) 32769 1 0 (let z : 32769 < length (replicate n 0) = omega (arith, length-replicate {A = ℕ} n 0) in z);
}

-- ── One edge ────────────────────────────────────────────────────────────────────────────────

module _ (u w word s : ℕ) where
  pub slot_early : s < w → slot_of u w word s ≡ 32768 + bit word s
  unfolding slot_of
  slot_early h = rw (lt-ltb s w h)

  pub slot_late : w ≤ s → slot_of u w word s ≡ row (s - w) + u
  unfolding slot_of
  slot_late h = rw (le-ltb s w h)

  pub slot_in : u < 512 → slot_of u w word s < 32770
  slot_in l = go (dec_lt s w)
    where
      go : Dec (s < w) → slot_of u w word s < 32770
      go (yes h) = omega (arith, slot_early h)
      go (no h) = omega (arith, slot_late (omega arith))

pub slot_turn : (u w word s : ℕ) → w ≤ s → u < 512 → further (slot_of u w word s) ≡ slot_of u w word (s + 1)
slot_turn u w word s h l =
    ap further (slot_late u w word s h) ∙ row_turn (s - w) ∙ ap (λ t. row t + u) (let z : s - w + 1 ≡ s + 1 - w = omega arith in z)
    ∙ sym (slot_late u w word (s + 1) (omega arith))
  where
    row_turn : (t : ℕ) → further (row t + u) ≡ row (t + 1) + u
    row_turn t = omega arith

-- Past the start values, a row further is the next clock.
pub edge_turn : (net : Netlist) (e t s : ℕ) → EdgeRows net e → 32 ≤ t → t + 1 ≡ s
    → further (edge_slot net t e) ≡ edge_slot net s e
edge_turn net e t s r h q =
    slot_turn (at net.from e) (at net.count e) (at net.start e) t (omega (arith, r.width)) r.source ∙ ap (λ x. edge_slot net x e) q

-- ── The edges of the nodes of a list ────────────────────────────────────────────────────────

module _ (ins : List ℕ) (net : Netlist) (s lo k : ℕ) (old new : List ℕ) where
  pub puts_more : (c : ℕ) → c ≡ edge_slot net s (at ins k) → k < length new → lo ≤ k → Puts ins net s lo k old new
      → Puts ins net s lo (k + 1) old (set new k c)
  puts_more c q h l w = record { done = λ j a b. go j a b (ℕ_discrete j k); rest = λ j o. get_or-set_other new k j c 0 (apart j o) ∙ w.rest j (wider j o) }
    where
      go : (j : ℕ) → lo ≤ j → j < k + 1 → Dec (j ≡ k) → at (set new k c) j ≡ edge_slot net s (at ins j)
      go j a b (yes z) = subst (λ i. at (set new k c) i ≡ edge_slot net s (at ins i)) (sym z) (get_or-set_same new k c 0 h ∙ q)
      go j a b (no z) = get_or-set_other new k j c 0 z ∙ w.done j a (omega arith)

      apart : (j : ℕ) → (j < lo) ⊎ (k + 1 ≤ j) → ¬ (j ≡ k)
      apart j (inl a) z = omega arith
      apart j (inr a) z = omega arith

      wider : (j : ℕ) → (j < lo) ⊎ (k + 1 ≤ j) → (j < lo) ⊎ (k ≤ j)
      wider j (inl a) = inl a
      wider j (inr a) = inr (omega arith)

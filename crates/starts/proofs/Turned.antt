-- Laws of 32 clocks in a row: the slots, the ring.
--   turned_low          slots stay in the ring
--   turned_edge         past the start values, j rows further is j clocks later
--   ahead_more, all_next    one clock of a gate more; one gate more
--   few_inputs          a gate with a truth word has eight inputs at most
--   Along               after j clocks of a gate: its slots, and the ring
--   along_start, along_inputs, along_next    before the first; what it sees is in place; one clock more
--   strides_alone       just one clock is taken, where the next is not one that 32 divides
--   row_ahead           in the 32 clocks from one on that 32 divides, row by row
use Prim.Native.Nat.{ℕ, zero, suc, ◌+◌, ◌*◌, ◌^◌, ◌/◌, ◌%◌, ◌<◌, ◌≤◌}
use native.Mathlib.Omega.{arith}
use native.Mathlib.Numerals.{add-one}
use native.Mathlib.Nat.{mul-le-mul_right}
use native.Mathlib.Decide.{dec_le}
use mathlib.Core.Path.{◌≡◌, refl, sym, ap, ap₂, subst, ◌∙◌}
use mathlib.Core.Logic.{inl, inr}
use mathlib.Core.List.{List, map}
use lib.Pow.{pow_mono}
use lib.ListN.{length, set, length-set, length-map}
use Rattle.std.proofs.lemmas.List.{ext_get_or}
use Rattle.theory.specs.Gate.{gate}
use Rattle.graph.specs.Columns.{at}
use Rattle.graph.proofs.Parts.{map_at}
use Rattle.gates.specs.inner.Gates.{part, AllBits, Narrow, Reckons, InputRows}
use Rattle.gates.proofs.Row.{bits_set}
use Rattle.netlist.specs.declared.Netlist.{Netlist}
use Rattle.starts.specs.inner.Ring.{row, edge_slot, EdgeRows, further}
use Rattle.starts.specs.inner.Ahead.{turned, ahead, all_ahead, Strides}
use Rattle.starts.proofs.Slots.{edge_turn}

turned_low : (j c size : ℕ) → c < size → 32768 ≤ size → turned j c < size
unfolding turned
turned_low zero c size h l = h
turned_low (suc j) c size h l = omega arith

pub turned_edge : (net : Netlist) (e s : ℕ) → EdgeRows net e → 32 ≤ s → (j : ℕ) → turned j (edge_slot net s e) ≡ edge_slot net (s + j) e
unfolding turned
turned_edge net e s r h zero = ap (λ t. edge_slot net t e) (let z : s ≡ s + 0 = omega arith in z)
turned_edge net e s r h (suc j) =
    ap further (turned_edge net e s r h j) ∙ edge_turn net e (s + j) (s + suc j) r (omega arith) (omega arith)

module _ (kind : ℕ) (sees : List ℕ) (place : ℕ) (ring : List ℕ) where
  ahead_more : (j : ℕ) → ahead kind sees place (j + 1) ring
      ≡ (let before = ahead kind sees place j ring in set before (place + j * 512) (gate kind (map (at before) (map (turned j) sees))))
  unfolding ahead
  ahead_more j = rw add-one

pub all_next : (kind node first slots : List ℕ) (base : ℕ) (ring old new : List ℕ) (n : ℕ) → old ≡ all_ahead kind node first slots base n ring
    → (let v = at node n in new ≡ ahead (at kind v) (part slots (at first v) (at first (suc v))) (base + v) 32 old) → new ≡ all_ahead kind node first slots base (n + 1) ring
unfolding all_ahead
all_next kind node first slots base ring old new n e q =
    let v = at node n in
    rw add-one (q ∙ ap (ahead (at kind v) (part slots (at first v) (at first (suc v))) (base + v) 32) e)

pub few_inputs : (truth n : ℕ) → Narrow truth n → n ≤ 8
few_inputs truth n h = go (dec_le n 8)
  where
    go : Dec (n ≤ 8) → n ≤ 8
    go (yes z) = z
    go (no z) =
        let p : 2 ^ 9 ≤ 2 ^ n = pow_mono {i = 9} {j = n} (omega arith) in
        let q : 1 * 2 ^ n ≤ suc (truth / 512) * 2 ^ n = mul-le-mul_right (2 ^ n) (omega arith) in
        absurd (let y : ⊥ = omega arith in y)

pub row_ahead : (s j : ℕ) → s % 32 ≡ 0 → j < 32 → row (s + j) ≡ row s + j * 512
row_ahead s j q h = omega arith

-- ── A gate's 32 clocks ──────────────────────────────────────────────────────────────────────

pub record Along (truth : ℕ) (sees : List ℕ) (place : ℕ) (ring : List ℕ) (j : ℕ) (own new : List ℕ) : Type 0 where
  pub own_rows : length own ≡ length sees
  pub size : length new ≡ length ring
  pub bits : AllBits new
  pub own_slots : (k : ℕ) → k < length sees → at own k ≡ turned j (at sees k)
  pub values : (kind : ℕ) → Reckons kind (length sees) truth → new ≡ ahead kind sees place j ring

module _ (truth : ℕ) (sees : List ℕ) (place : ℕ) (ring : List ℕ) (rows : InputRows truth sees ring) where
  pub along_start : AllBits ring → Along truth sees place ring 0 sees ring
  unfolding turned ahead
  along_start b = record { own_rows = refl; size = refl; bits = b; own_slots = λ k h. refl; values = λ kind r. refl }

  module _ (j : ℕ) (own new : List ℕ) (w : Along truth sees place ring j own new) where
    pub along_inputs : 32768 ≤ length ring → InputRows truth own new
    along_inputs h = record {
      narrow = subst (Narrow truth) (sym w.own_rows) rows.narrow;
      signals = λ k l.
          let b : k < length sees = omega (arith, w.own_rows) in
          (omega (arith, w.own_slots k b, w.size, turned_low j (at sees k) (length ring) (rows.signals k b).0 h), w.bits (at own k));
    }

    own_is : own ≡ map (turned j) sees
    own_is =
        ext_get_or 0 own (map (turned j) sees) (w.own_rows ∙ sym (length-map sees (turned j)))
        (λ k l. let b : k < length sees = omega (arith, w.own_rows) in w.own_slots k b ∙ sym (map_at (turned j) sees k b))

    pub along_next : (own' new' : List ℕ) (found : ℕ) → length own' ≡ length own → ((k : ℕ) → k < length own → at own' k ≡ further (at own k)) → new' ≡ set new (place + j * 512) found
        → (found ≤ 1) × ((kind : ℕ) → Reckons kind (length own) truth → found ≡ gate kind (map (at new) own)) → Along truth sees place ring (j + 1) own' new'
    unfolding turned
    along_next own' new' found q moved puts (bit, right) = record {
      own_rows = q ∙ w.own_rows;
      size = ap length puts ∙ length-set new (place + j * 512) found ∙ w.size;
      bits = subst AllBits (sym puts) (bits_set new (place + j * 512) found bit w.bits);
      own_slots = λ k b. rw (add-one j) (moved k (omega (arith, w.own_rows)) ∙ ap further (w.own_slots k b));
      values = λ kind r.
          puts
          ∙ ap₂ (λ x y. set x (place + j * 512) y) (w.values kind r)
          (right kind (subst (λ n. Reckons kind n truth) (sym w.own_rows) r) ∙ ap₂ (λ x y. gate kind (map (at x) y)) (w.values kind r) own_is)
          ∙ sym (ahead_more kind sees place ring j);
    }

-- ── How many clocks ─────────────────────────────────────────────────────────────────────────

module _ {net : Netlist} {list : List ℕ} {s r : ℕ} where
  pub strides_alone : Strides net list s r → 0 < (s + r) % 32 → r ≡ 1
  strides_alone (inl a) z = a
  strides_alone (inr a) z = absurd (let y : ⊥ = omega (arith, a.0, a.2) in y)

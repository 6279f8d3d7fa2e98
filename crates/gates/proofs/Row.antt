-- A row of gates, a turn at a time.
--   bits_set            a bit put among bits
--   seen_bits, part_rows, placed_seen    what a gate sees is bits, and in place
--   evaluated_more, evaluated_length, evaluated_bits    one gate more; as many signals; bits
use Prim.Native.Nat.{ℕ, zero, suc, ◌+◌, ◌-◌, ◌<◌, ◌≤◌}
use native.Mathlib.Omega.{arith}
use native.Mathlib.Numerals.{add-one}
use native.Mathlib.Decide.{ℕ_discrete, dec_lt}
use mathlib.Core.Path.{◌≡◌, refl, sym, ap, subst}
use mathlib.Core.List.{List, map}
use lib.ListN.{length, set, length-set}
use lib.Seq.{get_or-set_same, get_or-set_other, set_out}
use Rattle.theory.specs.Gate.{gate}
use Rattle.theory.proofs.clocks.Gate.{gate_bit}
use Rattle.graph.specs.Columns.{at}
use Rattle.gates.specs.inner.Gates.{part, AllBits, Narrow, InputRows, evaluated, GateRows}
use Rattle.gates.proofs.Words.{part_length, part_at, bits_map}

pub bits_set : (sig : List ℕ) (i x : ℕ) → x ≤ 1 → AllBits sig → AllBits (set sig i x)
bits_set sig i x h b k = go (ℕ_discrete k i) (dec_lt i (length sig))
  where
    go : Dec (k ≡ i) → Dec (i < length sig) → at (set sig i x) k ≤ 1
    go (no z) d = omega (arith, get_or-set_other sig i k x 0 z, b k)
    go (yes z) (yes l) = subst (λ n. at (set sig i x) n ≤ 1) (sym z) (omega (arith, get_or-set_same sig i x 0 l))
    go (yes z) (no l) = omega (arith, ap (λ s. at s k) (set_out sig i x (omega arith)), b k)

pub seen_bits : (truth : ℕ) (sees sig : List ℕ) → InputRows truth sees sig → AllBits (map (at sig) sees)
seen_bits truth sees sig s = bits_map (at sig) sees (λ i h. (s.signals i h).1)

-- What stands in a part of a list.
pub part_rows : (truth : ℕ) (list : List ℕ) (lo hi : ℕ) (sig : List ℕ) → hi ≤ length list → Narrow truth (hi - lo)
    → ((j : ℕ) → lo ≤ j → j < hi → (at list j < length sig) × (at sig (at list j) ≤ 1)) → InputRows truth (part list lo hi) sig
part_rows truth list lo hi sig h narrow signals =
    let e = part_length list lo hi h in record {
      narrow = subst (Narrow truth) (sym e) narrow;
      signals = λ j k. let l : j < hi - lo = omega (arith, e) in rw (part_at list lo hi j l) (signals (lo + j) (omega arith) (omega arith));
    }

-- The signals of a gate that has its place, among signals that are as many as there were before, and bits.
pub placed_seen : (truth first list : List ℕ) (base : ℕ) (old sig : List ℕ) (v : ℕ) → GateRows truth first list base (length old) v → length sig ≡ length old → AllBits sig
    → InputRows (at truth v) (part list (at first v) (at first (v + 1))) sig
placed_seen truth first list base old sig v p e b = rw add-one
    (part_rows (at truth v) list (at first v) (at first (suc v)) sig p.in_list p.narrow (λ j l h. (omega (arith, p.signals j l h), b (at list j))))

-- ── The signals ─────────────────────────────────────────────────────────────────────────────

module _ (kind node first list : List ℕ) (base : ℕ) (sig : List ℕ) where
  pub evaluated_more : (n : ℕ) → evaluated kind node first list base (n + 1) sig
      ≡ (let before = evaluated kind node first list base n sig in
      let v = at node n in
      set before (base + v) (gate (at kind v) (map (at before) (part list (at first v) (at first (suc v))))))
  unfolding evaluated
  evaluated_more n = rw add-one

  pub evaluated_length : (n : ℕ) → length (evaluated kind node first list base n sig) ≡ length sig
  unfolding evaluated
  evaluated_length zero = refl
  evaluated_length (suc n) = simp length-set (evaluated_length n)

  pub evaluated_bits : (n : ℕ) → AllBits sig → AllBits (evaluated kind node first list base n sig)
  unfolding evaluated
  evaluated_bits zero b = b
  evaluated_bits (suc n) b =
      let before = evaluated kind node first list base n sig in
      let v = at node n in
      let l = map (at before) (part list (at first v) (at first (suc v))) in
      bits_set before (base + v) (gate (at kind v) l) (gate_bit (at kind v) l) (evaluated_bits n b)

-- The search for the smallest period, by halving.
--   Halving             no period up to low is met, and the labels are those of the least retiming at high
--   halving_start       it begins where 65,535 is met
--   halving_missed      a period between them that is not met takes the place of the lower
use Prim.Native.Nat.{ℕ, ◌<◌, ◌≤◌}
use native.Mathlib.Omega.{arith}
use mathlib.Core.Path.{◌≡◌}
use mathlib.Core.List.{List}
use lib.ListN.{length}
use Rattle.graph.specs.Columns.{at}
use Rattle.netlist.specs.declared.Netlist.{Netlist}
use Rattle.netlist.specs.Circuit.{LeastIn, NoneMeetsIn}
use Rattle.lags.specs.inner.Lags.{Least}
use Rattle.moves.specs.inner.Labels.{lags_of}
use Rattle.quote.proofs.theorems.Period.{longer_forbids_less}

pub record Halving (net : Netlist) (low high : ℕ) (lab : List ℕ) : Type 0 where
  pub apart : low < high
  pub period : high ≤ 65535
  pub missed : (q : ℕ) → 1 ≤ q → q ≤ low → NoneMeetsIn net q
  pub met : LeastIn net high (lags_of lab)
  pub small : (v : ℕ) → v < net.nodes → at lab v < 32768
  pub rows : length lab ≡ 512

module _ (net : Netlist) where
  pub halving_start : {lab : List ℕ} → Least net 65535 lab → length lab ≡ 512 → Halving net 0 65535 lab
  halving_start l rows =
      record { apart = omega arith; period = omega arith; missed = λ q a b. absurd (let z : ⊥ = omega arith in z); met = l.least; small = l.small; rows = rows }

  module _ {low high : ℕ} {lab : List ℕ} (h : Halving net low high lab) where
    module _ {middle : ℕ} (above : low < middle) (below : middle < high) where
      pub halving_missed : NoneMeetsIn net middle → Halving net middle high lab
      halving_missed n = record {
        apart = below;
        period = h.period;
        missed = λ q a b. longer_forbids_less net q middle b n;
        met = h.met;
        small = h.small;
        rows = h.rows;
      }

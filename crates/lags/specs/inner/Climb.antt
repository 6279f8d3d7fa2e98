-- Climbing: labels and arrival times together, from below. A mark is label · 2^20 + time.
--   label_of, time_of   a mark's label and time
--   floor_of            the mark that a node has by its kind alone: at a pin label 16,384
--   Askable             edges that can be asked
--   AskedMark           the highest mark that a floor and some edges ask for
--   Takes               the mark of a node with a delay, after what is asked of it
--   Rests               a node has the mark that it takes
--   Lower               a node's mark, not above its label and time under any legal retiming that meets the period
--   Marked              marks on the way: small, a pin's label no higher than 16,384, and all of them lower in this sense
--   SweepLeaves         what a sweep leaves
--   Climbs              what the climb comes to: the labels of the least retiming, or that none meets the period, or it is left open
use Rattle.std.specs.Prelude.{◌≡◌, cond, List, ◌⊎◌, ℕ, suc, ◌+◌, ◌*◌, ◌/◌, ◌%◌, ◌≤◌, ◌<◌, leb, length}
use Rattle.theory.specs.inner.Arrival.{Infeasible, UnderAll}
use Rattle.graph.specs.Columns.{at}
use Rattle.netlist.specs.declared.Netlist.{Netlist}
use Rattle.netlist.specs.Net.{graph_of, regs_of, delay_of}
use Rattle.netlist.specs.Circuit.{NoneMeetsIn}
use Rattle.netlist.specs.inner.Words.{PinIn}
use Rattle.lags.specs.declared.climb.Climbed.{Climbed}
use Rattle.lags.specs.declared.climb.Climbed.TheVariants.{Settled, Unmet, Open}
use Rattle.lags.specs.declared.climb.Swept.{Swept}
use Rattle.lags.specs.declared.climb.Swept.TheVariants.{Still, Moved, Late, High}
use Rattle.lags.specs.inner.Lags.{Least}

abbrev pub label_of : ℕ → ℕ
label_of m = m / 1048576

abbrev pub time_of : ℕ → ℕ
time_of m = m % 1048576

unfoldable pub floor_of : ℕ → ℕ
floor_of kind = cond (leb kind 1) 17179869184 0

-- ── One node ────────────────────────────────────────────────────────────────────────────────

abbrev pub Askable : Netlist → List ℕ → List ℕ → Type 0
Askable net ins mark = (k : ℕ) → k < length ins → (at ins k < 1024) × (at net.from (at ins k) < 512) × (at mark (at net.from (at ins k)) < 34359738368)

-- Of the first n of the edges.
pub record AskedMark (net : Netlist) (ins mark : List ℕ) (floor n best : ℕ) : Type 0 where
  pub least : floor ≤ best
  pub above : (k : ℕ) → k < n → at mark (at net.from (at ins k)) ≤ best + at net.count (at ins k) * 1048576
  pub cause : (best ≡ floor) ⊎ ((k : ℕ) × (k < n) × (at mark (at net.from (at ins k)) ≡ best + at net.count (at ins k) * 1048576))

pub data Takes (period delay asked mark : ℕ) : Type 0 where
  on : time_of asked + delay ≤ period → label_of mark ≡ label_of asked → time_of mark ≡ time_of asked + delay → Takes period delay asked mark
  anew : period < time_of asked + delay → label_of mark ≡ suc (label_of asked) → time_of mark ≡ delay → Takes period delay asked mark

pub record Rests (net : Netlist) (period : ℕ) (mark : List ℕ) (v : ℕ) : Type 0 where
  pub best : ℕ
  pub least : floor_of (at net.kind v) ≤ best
  pub above : (e : ℕ) → e < net.edges → at net.to e ≡ v → at mark (at net.from e) ≤ best + at net.count e * 1048576
  pub takes : Takes period (delay_of net v) best (at mark v)

-- ── One sweep ───────────────────────────────────────────────────────────────────────────────

abbrev pub Lower : Netlist → ℕ → ℕ → ℕ → Type 0
Lower net period v mark = UnderAll (graph_of net) (regs_of net).count (delay_of net) 16384 period v (label_of mark) (time_of mark)

pub record Marked (net : Netlist) (period : ℕ) (mark : List ℕ) : Type 0 where
  pub low : (v : ℕ) → v < net.nodes → at mark v < 34359738368
  pub pinned : (v : ℕ) → v < net.nodes → PinIn net v → label_of (at mark v) ≤ 16384
  pub under : (v : ℕ) → v < net.nodes → Lower net period v (at mark v)

abbrev pub SweepLeaves : Netlist → ℕ → List ℕ → Swept → Type 0
SweepLeaves net period mark Still = Marked net period mark × ((v : ℕ) → v < net.nodes → Rests net period mark v)
SweepLeaves net period mark Moved = Marked net period mark
SweepLeaves net period mark Late = Infeasible (graph_of net) (regs_of net).count (delay_of net) 16384 period
SweepLeaves net period mark High = Unit {0}

-- ── The climb ───────────────────────────────────────────────────────────────────────────────

abbrev pub Climbs : Netlist → ℕ → Climbed → Type 0
Climbs net period (Settled lab) = Least net period lab
Climbs net period Unmet = NoneMeetsIn net period
Climbs net period Open = Unit {0}

-- Rounds: what one does to the labels, and the ways in which the search ends.
--   Lifting             what holds in `raise` before node v
--   Searching           what holds before each round
--   search_start        before the first round
--   search_few          there are 512 nodes at most
--   search_low          the labels stay small
--   search_next         a round further
--   search_found        no node is late: the labels are those of the least retiming
--   search_pin          a pin is late: no legal retiming meets the period
--   search_rounds       a node is late after as many rounds as nodes: no legal retiming meets the period
use Prim.Native.Nat.{ℕ, suc, ◌+◌, ◌≤◌, ◌<◌}
use native.Mathlib.Omega.{arith}
use native.Mathlib.Numerals.{add-one}
use mathlib.Core.Path.{◌≡◌, sym, subst}
use mathlib.Core.List.{List}
use lib.ListN.{length}
use Rattle.theory.specs.Graph.{Wired}
use Rattle.theory.proofs.labels.Start.{Distance, First}
use Rattle.theory.specs.inner.Labels.{Fits}
use Rattle.theory.proofs.labels.Stop.{After, start, round, after_near, after_fits}
use Rattle.theory.proofs.labels.Arrival.{time_late, times_round, times_no_late_pin, times_none}
use Rattle.theory.proofs.labels.Answer.{ready, answer_least, answer_pin, answer_rounds}
use Rattle.graph.specs.Columns.{at}
use Rattle.graph.specs.inner.Marks.{Above}
use Rattle.netlist.specs.declared.Netlist.{Netlist}
use Rattle.netlist.specs.Net.{graph_of, regs_of, delay_of}
use Rattle.netlist.specs.Circuit.{NoneMeetsIn}
use Rattle.netlist.proofs.Run.{fit_rows, fit_wired}
use Rattle.lags.specs.inner.Lags.{lag_of, Sure, Least}
use Rattle.lags.specs.inner.Starts.{FirstLabels}
use Rattle.lags.specs.inner.Rounds.{Low, LabelOrder, Arrived, LatePin, Lifted, Parted}
use Rattle.lags.proofs.Laws.{lag_label}
use Rattle.lags.proofs.Starts.{measured_distance, begun_first}
use Rattle.lags.proofs.Orders.{order_kept}

-- ── A round ─────────────────────────────────────────────────────────────────────────────────

module _ (nodes P : ℕ) (time before : List ℕ) where
  pub record Lifting (lab : List ℕ) (v : ℕ) : Type 0 where
    pub size : length lab ≡ 512
    pub up : (k : ℕ) → k < v → P < at time k → at lab k ≡ at before k + 1
    pub stays : (k : ℕ) → k < v → at time k ≤ P → at lab k ≡ at before k
    pub rest : (k : ℕ) → v ≤ k → at lab k ≡ at before k

-- ── The search ──────────────────────────────────────────────────────────────────────────────

pub record Searching (net : Netlist) (P : ℕ) (first lab order : List ℕ) (k : ℕ) : Type 0 where
  pub sure : Sure net
  pub begun : FirstLabels net first
  pub rounds : k ≤ 512
  pub ordered : LabelOrder net lab order
  pub after : After (graph_of net) (regs_of net).count (delay_of net) P (at first) (at lab) k

pub search_start : {net : Netlist} {P : ℕ} {first order : List ℕ} (k : ℕ) → k ≡ 0 → Sure net → FirstLabels net first → LabelOrder net first order → Searching net P first first order k
search_start {net} {P} {first} k z s b o = record {
  sure = s;
  begun = b;
  rounds = omega arith;
  ordered = o;
  after = subst (After (graph_of net) (regs_of net).count (delay_of net) P (at first) (at first)) (sym z) start;
}

module _ {net : Netlist} {P : ℕ} {first lab order : List ℕ} {k : ℕ} (w : Searching net P first lab order k) where
  pub search_few : net.nodes ≤ 512
  search_few = (fit_rows net w.sure.fit).0

  wired : Wired (graph_of net)
  wired = fit_wired net w.sure.fit

  distance : Distance (graph_of net) (at net.count) (at w.begun.far)
  distance = measured_distance net w.sure w.begun.far w.begun.measured

  from_first : First (graph_of net) 16384 (at w.begun.far) (at first)
  from_first = begun_first net w.sure first w.begun

  first_fits : Fits (graph_of net) (at net.count) (at first)
  first_fits = (ready wired (at net.count) (delay_of net) 16384 P (at w.begun.far) (at first) distance from_first).legal.fits

  -- A round raises a label by one at most.
  pub search_low : Low net.nodes lab
  search_low v h = omega (arith, after_near wired first_fits w.after v h, w.begun.labels v h, w.rounds)

  module _ (time : List ℕ) (a : Arrived net P lab time) where
    -- A time above the period is the period and one.
    over : (v : ℕ) → v < net.nodes → P < at time v → at time v ≡ suc P
    over v h l = omega (arith, (a.reached v h).enough)

    pub search_next : (next new : List ℕ) → k < net.nodes → ¬ LatePin net.kind time net.nodes P
        → Lifted net.nodes P time lab next → Parted order time P net.nodes new → Searching net P first next new (k + 1)
    search_next next new h n l p = record {
      sure = w.sure;
      begun = w.begun;
      rounds = omega (arith, search_few);
      ordered = order_kept net P time lab next order new w.sure (after_fits wired first_fits w.after) l w.ordered p;
      after = rw add-one (round w.after
          (times_no_late_pin (at net.count) (delay_of net) P (at lab) (at time) a (λ v m p q. n (record { node = v; within = m; pin = p; late = omega arith })))
          (times_round (at net.count) (delay_of net) P (at lab) (at time) a (at next)
          (λ v m q. omega (arith, l.up v m (omega arith)))
          (λ v m q. l.stays v m (low v m q))));
    }
      where
        low : (v : ℕ) → v < net.nodes → ¬ (at time v ≡ suc P) → at time v ≤ P
        low v m q = omega (arith, (a.reached v m).enough)

    -- The labels are legal, meet the period, and never passed those of a legal retiming that meets it (`end_least`).
    pub search_found : ¬ Above time net.nodes P → Least net P lab
    unfolding lag_of
    search_found n = record {
      least =
          answer_least wired (at net.count) (delay_of net) 16384 P (at w.begun.far) (at first) distance from_first (at lab) k w.after
          (λ v. lag_of (at lab v))
          (λ v h. lag_label (at lab v))
          (times_none (at net.count) (delay_of net) P (at lab) (at time) a (λ v h q. n (record { node = v; within = h; above = omega arith })));
      small = search_low;
    }

    -- A retiming that meets the period has a higher label at a late node, and no legal one has at a pin (`end_pin`).
    pub search_pin : LatePin net.kind time net.nodes P → NoneMeetsIn net P
    search_pin t =
        answer_pin wired (at net.count) (delay_of net) 16384 P (at w.begun.far) (at first) distance from_first (at lab) k w.after
        t.node t.pin
        (time_late (at net.count) (delay_of net) P (at lab) (at time) a t.node t.within (over t.node t.within t.late))

    -- A node that is late after as many rounds as nodes has behind it as many nodes and one, all different (`end_rounds`).
    pub search_rounds : net.nodes ≤ k → Above time net.nodes P → NoneMeetsIn net P
    search_rounds h t =
        answer_rounds wired (at net.count) (delay_of net) 16384 P (at w.begun.far) (at first) distance from_first (at lab) k w.after
        h t.node
        (time_late (at net.count) (delay_of net) P (at lab) (at time) a t.node t.within (over t.node t.within t.above))

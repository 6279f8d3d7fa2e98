-- The ends of a climb.
--   climb_start         the marks to start from, all 0
--   climb_found         every node has the mark that it takes: the labels are those of the least retiming
--   climb_none          no legal labelling meets the period
--   climb_slow          so where a delay is above the period
use Prim.Native.Nat.{ℕ, ◌+◌, ◌*◌, ◌≤◌, ◌<◌}
use native.Mathlib.Omega.{arith}
use native.Mathlib.Decide.{dec_le}
use mathlib.Core.Path.{◌≡◌, refl, subst}
use mathlib.Core.List.{List}
use Rattle.theory.specs.inner.Labels.{LegalLabels, LeastLabels}
use Rattle.theory.specs.inner.Arrival.{FromPin, Infeasible}
use Rattle.theory.proofs.labels.Start.{from_pin}
use Rattle.theory.proofs.labels.Bias.{Label, least_lags, none_lags}
use Rattle.theory.proofs.labels.Climb.{under_alone, climb_least, slow_node}
use Rattle.graph.specs.Columns.{at}
use Rattle.graph.specs.inner.Marks.{Above}
use Rattle.netlist.specs.declared.Netlist.{Netlist}
use Rattle.netlist.specs.Net.{graph_of, regs_of, delay_of}
use Rattle.netlist.specs.Circuit.{NoneMeetsIn}
use Rattle.netlist.specs.inner.Words.{PinIn}
use Rattle.netlist.proofs.Run.{fit_wired}
use Rattle.lags.specs.inner.Lags.{lag_of, Sure, Least}
use Rattle.lags.specs.declared.Ground.{Ground}
use Rattle.lags.specs.inner.Wires.{Basis}
use Rattle.lags.specs.inner.Climb.{label_of, time_of, Takes, on, anew, Rests, Marked}
use Rattle.lags.proofs.Laws.{lag_label}
use Rattle.lags.proofs.Starts.{near_pin}
use Rattle.lags.proofs.Sweeps.{floor_pin}

-- ── What a node takes, beside what an edge with c registers asks for, from a mark x ─────────

module _ {P d a m : ℕ} where
  takes_fits : (x c : ℕ) → Takes P d a m → x ≤ a + c * 1048576 → label_of x ≤ c + label_of m
  takes_fits x c (on t p s) q = omega arith
  takes_fits x c (anew t p s) q = omega arith

  takes_time : (x c : ℕ) → Takes P d a m → x ≤ a + c * 1048576 → label_of x ≡ c + label_of m → time_of x + d ≤ time_of m
  takes_time x c (on t p s) q e = omega arith
  takes_time x c (anew t p s) q e = omega arith

  takes_own : Takes P d a m → d ≤ P → (label_of a ≤ label_of m) × (d ≤ time_of m) × (time_of m ≤ P)
  takes_own (on t p s) q = omega arith
  takes_own (anew t p s) q = omega arith

near : (net : Netlist) → Sure net → (v : ℕ) → v < net.nodes → FromPin (graph_of net) (regs_of net).count v 16384
near net s v h = go (dec_le (at net.kind v) 1)
  where
    go : Dec (PinIn net v) → FromPin (graph_of net) (regs_of net).count v 16384
    go (yes p) =
        let t = from_pin {G = graph_of net} {count = (regs_of net).count} v h p in
        record { from = t.from; pin = t.pin; walk = t.walk; few = omega (arith, t.few) }
    go (no p) = near_pin net s v h p

pub climb_start : (net : Netlist) (P : ℕ) (mark : List ℕ) → ((v : ℕ) → v < net.nodes → at mark v ≡ 0) → Marked net P mark
climb_start net P mark z = record {
  low = λ v h. omega (arith, z v h);
  pinned = λ v h p. omega (arith, z v h);
  under = λ v h r l q. under_alone (at net.count) (delay_of net) P r v _ _ h (omega (arith, z v h)) (omega (arith, z v h));
}

pub climb_none : (net : Netlist) (P : ℕ) → Sure net → Infeasible (graph_of net) (regs_of net).count (delay_of net) 16384 P → NoneMeetsIn net P
climb_none net P s n = none_lags (fit_wired net s.fit) (at net.count) (delay_of net) 16384 P (near net s) n

module _ {net : Netlist} {g : Ground} {P : ℕ} (w : Basis net g P) where
  pub climb_slow : Above g.delay net.nodes P → Infeasible (graph_of net) (regs_of net).count (delay_of net) 16384 P
  climb_slow t = slow_node (at net.count) (delay_of net) 16384 P t.node t.within (omega (arith, t.above, w.ground.delayed.exact t.node t.within))

  module _ (quick : ¬ Above g.delay net.nodes P) (mark : List ℕ) (m : Marked net P mark) (rests : (v : ℕ) → v < net.nodes → Rests net P mark v) where
    quick_at : (v : ℕ) → v < net.nodes → delay_of net v ≤ P
    quick_at v h = go (dec_le (delay_of net v) P)
      where
        go : Dec (delay_of net v ≤ P) → delay_of net v ≤ P
        go (yes l) = l
        go (no l) = absurd (quick (record { node = v; within = h; above = omega (arith, w.ground.delayed.exact v h) }))

    end_in : (e : ℕ) → e < net.edges → at net.to e < net.nodes
    end_in = (fit_wired net w.sure.fit).dst_in

    asks : (e : ℕ) (h : e < net.edges) → at mark (at net.from e) ≤ (rests (at net.to e) (end_in e h)).best + at net.count e * 1048576
    asks e h = (rests (at net.to e) (end_in e h)).above e h refl

    found_legal : LegalLabels (graph_of net) (at net.count) 16384 (λ v. label_of (at mark v))
    found_legal = record {
      fits = λ e h. takes_fits (at mark (at net.from e)) (at net.count e) (rests (at net.to e) (end_in e h)).takes (asks e h);
      pinned = λ v h p.
          omega (arith, m.pinned v h p, floor_pin (at net.kind v) p, (rests v h).least, (takes_own (rests v h).takes (quick_at v h)).0);
    }

    found_least : LeastLabels (graph_of net) (at net.count) (delay_of net) 16384 P (λ v. label_of (at mark v))
    found_least =
        climb_least (at net.count) (delay_of net) 16384 P (fit_wired net w.sure.fit) (λ v. label_of (at mark v)) (λ v. time_of (at mark v)) m.under
        found_legal
        (λ v h. omega (arith, (takes_own (rests v h).takes (quick_at v h)).1))
        (λ e h z.
        omega (
          arith,
          takes_time (at mark (at net.from e)) (at net.count e) (rests (at net.to e) (end_in e h)).takes (asks e h) z,
        ))
        (λ v h. (takes_own (rests v h).takes (quick_at v h)).2)

    pub climb_found : (lab : List ℕ) → ((v : ℕ) → v < net.nodes → at lab v ≡ label_of (at mark v)) → Least net P lab
    climb_found lab q = record {
      least =
          least_lags (fit_wired net w.sure.fit) (at net.count) (delay_of net) 16384 P (near net w.sure) (λ v. lag_of (at lab v)) (λ v. label_of (at mark v))
          (λ v h. subst (λ l. Label 16384 (lag_of (at lab v)) l) (q v h) (lag_label (at lab v)))
          found_least;
      small = λ v h. omega (arith, q v h, m.low v h);
    }

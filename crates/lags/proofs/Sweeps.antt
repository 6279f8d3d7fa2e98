-- The climb: what an edge asks for, what a node takes, what a sweep leaves.
--   floor_pin, floor_gate, floor_low         the mark that a node has by its kind alone
--   asked_higher        what one edge more asks for
--   climb_askable       a node's edges can be asked
--   climb_low           what is asked of a node is small
--   climb_rests         a node that has the mark that it takes
--   climb_next          what a node takes is below every legal retiming that meets the period, where the marks are
--   Sweeping            what holds in a sweep before place i of the order
--   sweep_kept, sweep_moved, sweep_late, sweep_still      a node that has its mark; one that takes another; a pin above its label; after the last node
use Prim.Native.Nat.{ℕ, suc, ◌+◌, ◌-◌, ◌*◌, min, max, ◌≤◌, ◌<◌}
use native.Mathlib.Omega.{arith}
use native.Mathlib.Decide.{ℕ_discrete, dec_le, dec_lt}
use mathlib.Core.Path.{◌≡◌, sym, subst, ◌∙◌}
use mathlib.Core.Bool.{Bool, true, false}
use mathlib.Core.List.{List}
use mathlib.Core.Logic.{inl, inr, ⊎_elim}
use lib.ListN.{length, set, length-set}
use lib.Seq.{get_or-set_same, get_or-set_other}
use borrow.Author.Count.{below_more}
use borrow.Author.Tests.{le-leb, lt-leb}
use Rattle.theory.specs.inner.Arrival.{Infeasible, Under, UnderAll}
use Rattle.theory.proofs.labels.Climb.{under_earlier, under_alone, under_edge, under_next, climb_pin}
use Rattle.graph.specs.Columns.{at}
use Rattle.netlist.specs.declared.Netlist.{Netlist}
use Rattle.netlist.specs.Net.{graph_of, delay_of}
use Rattle.netlist.specs.inner.Words.{PinIn}
use Rattle.netlist.proofs.Fits.{clash}
use Rattle.netlist.proofs.Run.{fit_rows, fit_wired}
use Rattle.lags.specs.declared.climb.Swept.TheVariants.{Still}
use Rattle.lags.specs.declared.Ground.{Ground}
use Rattle.lags.specs.inner.Wires.{NodeList, Basis, Entering}
use Rattle.lags.specs.inner.Climb.{label_of, time_of, floor_of, Askable, AskedMark, Takes, on, anew, Rests, Lower, Marked, SweepLeaves}

-- ── One node ────────────────────────────────────────────────────────────────────────────────

pub floor_pin : (kind : ℕ) → kind ≤ 1 → floor_of kind ≡ 17179869184
unfolding floor_of
floor_pin kind h = rw (le-leb kind 1 h)

pub floor_gate : (kind : ℕ) → 1 < kind → floor_of kind ≡ 0
unfolding floor_of
floor_gate kind h = rw (lt-leb kind 1 h)

pub floor_low : (kind : ℕ) → floor_of kind ≤ 17179869184
floor_low kind = go (dec_le kind 1)
  where
    go : Dec (kind ≤ 1) → floor_of kind ≤ 17179869184
    go (yes p) = omega (arith, floor_pin kind p)
    go (no p) = omega (arith, floor_gate kind (let z : 1 < kind = omega arith in z))

module _ (net : Netlist) (ins mark : List ℕ) (floor k best : ℕ) (a : AskedMark net ins mark floor k best) where
  asked_kept : at mark (at net.from (at ins k)) ≤ best + at net.count (at ins k) * 1048576 → AskedMark net ins mark floor (k + 1) best
  asked_kept q = record {
    least = a.least;
    above = below_more _ _ a.above q;
    cause = ⊎_elim inl (λ c. inr (c.0, omega (arith, c.1), c.2)) a.cause;
  }

  asked_raised : best + at net.count (at ins k) * 1048576 < at mark (at net.from (at ins k))
      → AskedMark net ins mark floor (k + 1) (at mark (at net.from (at ins k)) - at net.count (at ins k) * 1048576)
  asked_raised q = record {
    least = omega (arith, a.least);
    above = below_more _ _ (λ j m. omega (arith, a.above j m)) (omega arith);
    cause = inr (k, omega arith, omega arith);
  }

  -- The higher of the two.
  pub asked_higher : AskedMark net ins mark floor (k + 1) (max best (at mark (at net.from (at ins k)) - at net.count (at ins k) * 1048576))
  asked_higher = go (dec_lt (best + at net.count (at ins k) * 1048576) (at mark (at net.from (at ins k))))
    where
      go : Dec (best + at net.count (at ins k) * 1048576 < at mark (at net.from (at ins k)))
          → AskedMark net ins mark floor (k + 1) (max best (at mark (at net.from (at ins k)) - at net.count (at ins k) * 1048576))
      go (yes q) = subst (AskedMark net ins mark floor (k + 1)) (omega arith) (asked_raised q)
      go (no q) = subst (AskedMark net ins mark floor (k + 1)) (omega arith) (asked_kept (omega arith))

-- ── A climb ─────────────────────────────────────────────────────────────────────────────────

module _ {net : Netlist} {g : Ground} {P : ℕ} (w : Basis net g P) where
  pub climb_askable : (mark : List ℕ) → Marked net P mark → {v : ℕ} {ins : List ℕ} → Entering net v ins → Askable net ins mark
  climb_askable mark m {v} {ins} x k h =
      let u = (fit_wired net w.sure.fit).src_in (at ins k) (x.edge k h) in
      (omega (arith, x.edge k h, (fit_rows net w.sure.fit).1), omega (arith, (fit_rows net w.sure.fit).0), m.low (at net.from (at ins k)) u)

  module _ (mark : List ℕ) (m : Marked net P mark) (v : ℕ) (h : v < net.nodes) {ins : List ℕ} (x : Entering net v ins) (best : ℕ)
      (a : AskedMark net ins mark (floor_of (at net.kind v)) (length ins) best) where
    pub climb_low : best < 34359738368
    climb_low =
        ⊎_elim
        (λ c. omega (arith, floor_low (at net.kind v)))
        (λ c. omega (arith, c.2, m.low (at net.from (at ins c.0)) ((fit_wired net w.sure.fit).src_in (at ins c.0) (x.edge c.0 c.1))))
        a.cause

    -- By its floor alone: a pin's label is that of every legal retiming. By an edge: its start's mark is below.
    climb_asked : UnderAll (graph_of net) (at net.count) (delay_of net) 16384 P v (label_of best) (min (suc P) (time_of best + delay_of net v))
    climb_asked r l q = ⊎_elim (λ c. alone c (dec_le (at net.kind v) 1)) along a.cause
      where
        Here : Type 0
        Here = Under (graph_of net) (at net.count) (delay_of net) P r v (label_of best) (min (suc P) (time_of best + delay_of net v))

        alone : best ≡ floor_of (at net.kind v) → Dec (PinIn net v) → Here
        alone c (yes p) =
            let f = floor_pin (at net.kind v) p in
            under_alone (at net.count) (delay_of net) P r v _ _ h (omega (arith, l.pinned v h p)) (omega arith)
        alone c (no p) =
            let f = floor_gate (at net.kind v) (omega arith) in
            under_alone (at net.count) (delay_of net) P r v _ _ h (omega arith) (omega arith)

        along : (k : ℕ) × (k < length ins) × (at mark (at net.from (at ins k)) ≡ best + at net.count (at ins k) * 1048576) → Here
        along c =
            let e = at ins c.0 in
            let i = x.edge c.0 c.1 in
            let y = at mark (at net.from e) in
            let s : y ≡ best + at net.count e * 1048576 = c.2 in
            let b : label_of y ≡ label_of best + at net.count e = omega arith in
            let u = under_edge (at net.count) (delay_of net) P r l.fits e (label_of y) (label_of best) (time_of y) i b (m.under (at net.from e) ((fit_wired net w.sure.fit).src_in e i) r l q) in
            under_earlier (at net.count) (delay_of net) P r v (label_of best) (min (suc P) (time_of y + delay_of net v)) _ (omega arith)
            (subst (λ z. Under (graph_of net) (at net.count) (delay_of net) P r z (label_of best) (min (suc P) (time_of y + delay_of net z))) (x.ends c.0 c.1) u)

    pub climb_next : (next : ℕ) → Takes P (delay_of net v) best next → Lower net P v next
    climb_next next (on t p s) r l q =
        subst (λ y. Under (graph_of net) (at net.count) (delay_of net) P r v y (time_of next)) (sym p)
        (under_earlier (at net.count) (delay_of net) P r v (label_of best) _ (time_of next) (omega arith) (climb_asked r l q))
    climb_next next (anew t p s) r l q =
        subst (λ y. Under (graph_of net) (at net.count) (delay_of net) P r v y (time_of next)) (sym p)
        (under_earlier (at net.count) (delay_of net) P r v (suc (label_of best)) (delay_of net v) (time_of next) (omega arith)
        (under_next (at net.count) (delay_of net) P r q v (label_of best) (time_of best) h (omega arith) (climb_asked r l q)))

    pub climb_rests : Takes P (delay_of net v) best (at mark v) → Rests net P mark v
    climb_rests t = record {
      best = best;
      least = a.least;
      above = λ e i q.
          let k = x.every e i q in
          subst (λ d. at mark (at net.from d) ≤ best + at net.count d * 1048576) k.holds (a.above k.place k.within);
      takes = t;
    }

    pub sweep_late : (next : ℕ) → Takes P (delay_of net v) best next → PinIn net v → 17180917760 ≤ next
        → Infeasible (graph_of net) (at net.count) (delay_of net) 16384 P
    sweep_late next t p b = climb_pin (at net.count) (delay_of net) 16384 P v (label_of next) (time_of next) h p (omega arith) (climb_next next t)

-- ── A sweep ─────────────────────────────────────────────────────────────────────────────────

pub record Sweeping (net : Netlist) (P : ℕ) (order mark : List ℕ) (changed : Bool) (i : ℕ) : Type 0 where
  pub size : length mark ≡ 512
  pub marked : Marked net P mark
  pub rests : changed ≡ false → (k : ℕ) → k < i → Rests net P mark (at order k)

module _ {net : Netlist} {P : ℕ} {order mark : List ℕ} {changed : Bool} {i : ℕ} (s : Sweeping net P order mark changed i) where
  pub sweep_kept : Rests net P mark (at order i) → Sweeping net P order mark changed (i + 1)
  sweep_kept t = record { size = s.size; marked = s.marked; rests = λ z. below_more _ _ (s.rests z) t }

  pub sweep_moved : (v next : ℕ) → v < 512 → next < 34359738368 → (PinIn net v → label_of next ≤ 16384) → Lower net P v next
      → Sweeping net P order (set mark v next) true (i + 1)
  sweep_moved v next n b p c = record {
    size = length-set mark v next ∙ s.size;
    marked = record {
      low = λ x k. put (λ y m. m < 34359738368) b x (s.marked.low x k);
      pinned = λ x k. put (λ y m. PinIn net y → label_of m ≤ 16384) p x (s.marked.pinned x k);
      under = λ x k. put (Lower net P) c x (s.marked.under x k);
    };
    rests = λ z. clash (cc);
  }
    where
      -- What holds of the new mark, and of the old ones, holds after the store.
      put : (Is : ℕ → ℕ → Type 0) → Is v next → (x : ℕ) → Is x (at mark x) → Is x (at (set mark v next) x)
      put Is new x old = go (ℕ_discrete x v)
        where
          go : Dec (x ≡ v) → Is x (at (set mark v next) x)
          go (yes z) = subst (λ y. Is y (at (set mark v next) y)) (sym z) (subst (Is v) (sym (get_or-set_same mark v next 0 (omega (arith, s.size)))) new)
          go (no z) = subst (Is x) (sym (get_or-set_other mark v x next 0 z)) old

  pub sweep_still : NodeList net order → net.nodes ≤ i → changed ≡ false → SweepLeaves net P mark Still
  sweep_still o h z = (
    s.marked,
    λ v l. let t = o.every v l in
        subst (Rests net P mark) t.holds (s.rests z t.place (omega (arith, t.within))),
  )

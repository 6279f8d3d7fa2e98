-- The labels to start from: sweeps over the edges until no edge offers a shorter way from a pin.
--   State               what holds in a sweep before edge e
--   near_pin            every gate is within 16,384 registers of a pin
--   far_start           the distances to start from
--   state_keep, state_shorten                 an edge that offers nothing; one that offers a shorter way
--   measured_distance, begun_first            the distances and the labels in the theory's words
use Prim.Native.Nat.{ℕ, ◌+◌, ◌≤◌, ◌<◌}
use native.Mathlib.Omega.{arith}
use native.Mathlib.Decide.{ℕ_discrete, dec_le}
use mathlib.Core.Path.{◌≡◌, sym, subst, ◌∙◌}
use mathlib.Core.Bool.{Bool, true, false}
use mathlib.Core.List.{List}
use mathlib.Core.Logic.{◌⊎◌, inl, inr, ◌≢◌}
use lib.ListN.{length, set, length-set}
use lib.Seq.{get_or-set_same, get_or-set_other}
use borrow.Author.Tests.{le-leb, lt-leb}
use Rattle.theory.proofs.numbers.Sums.{sum_less}
use Rattle.theory.proofs.walks.Short.{short_walk, few_registers}
use Rattle.theory.specs.inner.Arrival.{FromPin}
use Rattle.theory.proofs.labels.Start.{from_pin, from_edge, Distance, First}
use Rattle.graph.specs.Columns.{at}
use Rattle.netlist.specs.declared.Netlist.{Netlist}
use Rattle.netlist.specs.Net.{graph_of, regs_of}
use Rattle.netlist.specs.inner.Words.{PinIn}
use Rattle.netlist.proofs.Fits.{clash}
use Rattle.netlist.proofs.Run.{fit_rows, fit_wired}
use Rattle.netlist.proofs.Lowest.{count_low}
use Rattle.lags.specs.inner.Lags.{Sure}
use Rattle.lags.specs.inner.Starts.{start_of, distance_sum, Far, NoShorter, Measured, FirstLabels}

pub record State (net : Netlist) (before far : List ℕ) (changed : Bool) (e : ℕ) : Type 0 where
  pub size : length far ≡ 512
  pub ways : Far net far
  pub most : distance_sum net far ≤ distance_sum net before
  pub fallen : changed ≡ true → distance_sum net far < distance_sum net before
  pub passed : changed ≡ false → NoShorter net far e

module _ (net : Netlist) (s : Sure net) where
  -- An input reaches v. A walk between the two has fewer edges than there are nodes, 511 at most, and 32 registers on each at most.
  pub near_pin : (v : ℕ) → v < net.nodes → ¬ PinIn net v → FromPin (graph_of net) (regs_of net).count v 16384
  near_pin v h p =
      let f = s.fed v h p in
      let q = short_walk (fit_wired net s.fit) f.walk in
      record {
        from = f.from;
        pin = omega (arith, f.input);
        walk = q.0;
        few = omega (arith, few_registers (at net.count) 32 (count_low net s.fit) q.0, q.1, (fit_rows net s.fit).0);
      }

  pub far_start : (far : List ℕ) → ((v : ℕ) → v < net.nodes → at far v ≡ start_of (at net.kind v)) → Far net far
  unfolding start_of
  far_start far w = record {
    low = λ v h. low v h (dec_le (at net.kind v) 1);
    pins = λ v h p. pin v h p;
    reached = λ v h. reached v h (dec_le (at net.kind v) 1);
  }
    where
      pin : (v : ℕ) → v < net.nodes → PinIn net v → at far v ≡ 0
      pin v h p = rw (w v h, le-leb (at net.kind v) 1 p)

      gate : (v : ℕ) → v < net.nodes → ¬ PinIn net v → at far v ≡ 16384
      gate v h p = rw (w v h, lt-leb (at net.kind v) 1 (let z : 1 < at net.kind v = omega arith in z))

      low : (v : ℕ) → v < net.nodes → Dec (PinIn net v) → at far v ≤ 16384
      low v h (yes p) = omega (arith, pin v h p)
      low v h (no p) = omega (arith, gate v h p)

      reached : (v : ℕ) → v < net.nodes → Dec (PinIn net v) → FromPin (graph_of net) (regs_of net).count v (at far v)
      reached v h (yes p) = rw (pin v h p) (from_pin v h p)
      reached v h (no p) = rw (gate v h p) (near_pin v h p)

  -- ── A sweep ─────────────────────────────────────────────────────────────────────────────────

  module _ (before far : List ℕ) (changed : Bool) (e : ℕ) (h : e < net.edges) (t : State net before far changed e) where
    pub state_keep : at far (at net.to e) ≤ at far (at net.from e) + at net.count e → State net before far changed (e + 1)
    state_keep l = record {
      size = t.size;
      ways = t.ways;
      most = t.most;
      fallen = t.fallen;
      passed = λ z k m. last z k m (ℕ_discrete k e);
    }
      where
        last : changed ≡ false → (k : ℕ) → k < e + 1 → Dec (k ≡ e) → at far (at net.to k) ≤ at far (at net.from k) + at net.count k
        last z k m (yes q) = subst (λ x. at far (at net.to x) ≤ at far (at net.from x) + at net.count x) (sym q) l
        last z k m (no q) = t.passed z k (omega arith)

    -- The walk to the edge's start and the edge reach the new distance. It is shorter, so the sum falls; and a pin has no shorter one.
    pub state_shorten : at far (at net.from e) + at net.count e < at far (at net.to e)
        → State net before (set far (at net.to e) (at far (at net.from e) + at net.count e)) true (e + 1)
    state_shorten l = record {
      size = length-set far v d ∙ t.size;
      ways = record {
        low = λ x k. omega (arith, fall x (ℕ_discrete x v), t.ways.low x k);
        pins = λ x k p. omega (arith, fall x (ℕ_discrete x v), t.ways.pins x k p);
        reached = λ x k. reached x k (ℕ_discrete x v);
      };
      most = omega (arith, falls, t.most);
      fallen = λ _. omega (arith, falls, t.most);
      passed = λ z. clash (cc);
    }
      where
        v : ℕ
        v = at net.to e

        d : ℕ
        d = at far (at net.from e) + at net.count e

        in_nodes : v < net.nodes
        in_nodes = (fit_wired net s.fit).dst_in e h

        same : at (set far v d) v ≡ d
        same = get_or-set_same far v d 0 (let y : v < length far = omega (arith, in_nodes, (fit_rows net s.fit).0, t.size) in y)

        other : (x : ℕ) → x ≢ v → at (set far v d) x ≡ at far x
        other x z = get_or-set_other far v x d 0 z

        fall : (x : ℕ) → Dec (x ≡ v) → at (set far v d) x ≤ at far x
        fall x (yes z) = subst (λ y. at (set far v d) y ≤ at far y) (sym z) (omega (arith, same, l))
        fall x (no z) = omega (arith, other x z)

        falls : distance_sum net (set far v d) < distance_sum net far
        falls =
            sum_less (λ x. at (set far v d) x) (λ x. at far x) net.nodes v
            (λ x k. fall x (ℕ_discrete x v))
            in_nodes
            (omega (arith, same, l))

        reached : (x : ℕ) → x < net.nodes → Dec (x ≡ v) → FromPin (graph_of net) (regs_of net).count x (at (set far v d) x)
        reached x k (yes z) =
            subst (λ y. FromPin (graph_of net) (regs_of net).count y (at (set far v d) y)) (sym z)
            (subst (λ n. FromPin (graph_of net) (regs_of net).count v n) (sym same)
            (from_edge e (at far (at net.from e)) h (t.ways.reached (at net.from e) ((fit_wired net s.fit).src_in e h))))
        reached x k (no z) = subst (λ n. FromPin (graph_of net) (regs_of net).count x n) (sym (other x z)) (t.ways.reached x k)

  -- ── In the theory's words ───────────────────────────────────────────────────────────────────

  pub measured_distance : (far : List ℕ) → Measured net far → Distance (graph_of net) (regs_of net).count (at far)
  measured_distance far m = record {
    edge = m.passed;
    source = λ e h p. m.ways.pins (at net.from e) ((fit_wired net s.fit).src_in e h) p;
    reached = m.ways.reached;
  }

  pub begun_first : (lab : List ℕ) (b : FirstLabels net lab) → First (graph_of net) 16384 (at b.far) (at lab)
  begun_first lab b v h = go (dec_le (at net.kind v) 1)
    where
      go : Dec (PinIn net v) → (PinIn net v × (at lab v ≡ 16384)) ⊎ (¬ PinIn net v × (at lab v + at b.far v ≡ 16384))
      go (yes p) = inl (p, omega (arith, b.labels v h, b.measured.ways.pins v h p))
      go (no p) = inr (p, b.labels v h)

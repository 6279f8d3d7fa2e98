-- From what a call found to what stepping and running say: the four ends of each.
--   steps_stop, steps_asked, steps_short, steps_done    stepping stops at a refusal of 2 to 7, at 13, at 12, or is done
--   step_runnable       else a step is one clock
--   runs_stop, runs_asked, runs_short, runs_done    running stops at a refusal of 1 to 7, at 13, at 12, or is done
--   run_divisors        neither divisor is 0
--   run_asks            how 13 is tested
--   run_runnable, run_room    else its vectors are its clocks, and their outputs have room
use Prim.Native.Nat.{ℕ, ◌+◌, ◌*◌, ◌/◌, ◌%◌, ◌<◌, ◌≤◌}
use native.Mathlib.Omega.{arith}
use native.Mathlib.Nat.{div-add-mod', div-lt_iff_lt-mul, le-div_iff_mul-le}
use mathlib.Core.Path.{◌≡◌, refl, ap, ap₂, ◌∙◌}
use mathlib.Core.Bool.{true, false}
use mathlib.Core.List.{List, [], ◌∷◌, append-nil}
use lib.Dec.{eqb}
use lib.ListN.{length}
use lib.Seq.{sets, sets-eq, take_all}
use borrow.Author.Tests.{eqb-true}
use Rattle.netlist.specs.declared.Netlist.{Netlist}
use Rattle.netlist.specs.Answer.{value, refused, whole}
use Rattle.netlist.specs.Order.{here, past}
use Rattle.netlist.specs.Read.{Reads}
use Rattle.netlist.specs.Write.{text_of}
use Rattle.rules.specs.Rules.{every}
use Rattle.netlist.proofs.Fits.{both}
use Rattle.netlist.proofs.Order.{needs_room}
use Rattle.simulate.specs.declared.Machine.{Machine}
use Rattle.simulate.specs.Clock.{inputs, outputs, output_values, words_after}
use Rattle.simulate.specs.Step.{only_bits, step_fits, Steps}
use Rattle.simulate.specs.Run.{clocks_from, clocks, run_fits, Runs}
use Rattle.simulate.specs.inner.Ran.{Runnable, words_from, Ran}
use Rattle.simulate.proofs.Clock.{start_fits, all_words_fit, output_length, clocks_length}
use Rattle.simulate.proofs.Says.{row_held, step_facts}
use Rattle.simulate.proofs.Ran.{reads_zero, reads_steppable}
use Rattle.simulate.proofs.theorems.Pins.{has_pins}

-- ── Stepping ────────────────────────────────────────────────────────────────────────────────

module _ (net : Netlist) (m : Machine) (vector old : List ℕ) (same : Netlist) where
  pub steps_stop : (q k p : ℕ) → Reads (text_of net) (refused q k p) same → Steps net m vector old (refused q k p) m old
  steps_stop q k p check = record { checked = refused q k p; same = same; check = check; answer = here refl; machine = refl; buffer = refl }

  module _ {n : ℕ} (check : Reads (text_of net) (value n) same) where
    pub steps_asked : step_fits same m.words vector ≡ false → Steps net m vector old (whole 13) m old
    steps_asked f = record { checked = value n; same = same; check = check; answer = past (λ x s. s) (here (f, refl)); machine = refl; buffer = refl }

    module _ (f : step_fits same m.words vector ≡ true) (o : ℕ) (q : o ≡ outputs same) where
      pub steps_short : length old < o → Steps net m vector old (whole 12) m old
      steps_short h = record {
        checked = value n;
        same = same;
        check = check;
        answer = past (λ x s. s) (past (row_held f) (here (omega arith, refl)));
        machine = refl;
        buffer = refl;
      }

      module _ (h : o ≤ length old) where
        pub step_runnable : Runnable same 1 m.words vector old
        step_runnable =
            let k = step_facts same m.words vector f in record {
              whole = omega (arith, k.0);
              vector_bits = k.1;
              fits = k.2;
              room = omega arith;
            }

        -- One clock, on the whole vector.
        pub steps_done : (words' new : List ℕ) → Ran same 1 m.words vector old words' new → Steps net m vector old (value o) (record { words = words' }) new
        unfolding clocks_from words_from
        steps_done words' new r =
            let all = take_all (inputs same) vector (omega (arith, (step_facts same m.words vector f).0)) in
            let put = output_values same m.words vector in
            let one : clocks_from same 1 m.words vector ≡ put = append-nil _ ∙ ap (output_values same m.words) all in
            let k : 0 + length put ≡ length put = omega arith in record {
              checked = value n;
              same = same;
              check = check;
              answer = past (λ x s. s) (past (row_held f) (needs_room (omega arith) q));
              machine = ap (λ w. record { words = w }) (r.leaves ∙ ap (words_after same m.words) all);
              buffer = rw k at (r.puts ∙ ap (sets old 0) one ∙ sets-eq put old 0 (omega (arith, output_length same m.words vector)));
            }

-- ── Running ─────────────────────────────────────────────────────────────────────────────────

module _ (t vectors old : List ℕ) (net : Netlist) where
  pub runs_stop : (q k p : ℕ) → Reads t (refused q k p) net → Runs t vectors old (refused q k p) old
  runs_stop q k p reads = record { checked = refused q k p; net = net; reads = reads; answer = here refl; buffer = refl }

  -- The code counts i inputs and o outputs.
  module _ {n : ℕ} (reads : Reads t (value n) net) (i o : ℕ) (p : i ≡ inputs net) (q : o ≡ outputs net) where
    -- Neither is 0.
    pub run_divisors : (0 < i) × (0 < o)
    run_divisors =
        let k = has_pins t net (reads_zero reads) in
        (omega (arith, k.0), omega (arith, k.1))

    -- So 13 is asked.
    pub run_asks : every (eqb (length vectors % i) 0 ∷ only_bits vectors ∷ []) ≡ run_fits net vectors
    run_asks = ap (λ k. every (eqb (length vectors % k) 0 ∷ only_bits vectors ∷ [])) p

    pub runs_asked : run_fits net vectors ≡ false → Runs t vectors old (whole 13) old
    runs_asked f = record { checked = value n; net = net; reads = reads; answer = past (λ x s. s) (here (f, refl)); buffer = refl }

    module _ (f : run_fits net vectors ≡ true) where
      whole_vectors : length vectors % i ≡ 0
      whole_vectors = ap (λ k. length vectors % k) p ∙ eqb-true (length vectors % inputs net) 0 (both (eqb (length vectors % inputs net) 0) _ f).0

      vector_bits : only_bits vectors ≡ true
      vector_bits = (both (only_bits vectors) true (both (eqb (length vectors % inputs net) 0) _ f).1).0

      clocks_are : length vectors / i * o ≡ clocks net vectors * outputs net
      clocks_are = ap₂ (λ k l. length vectors / k * l) p q

      -- The product could be too large to compute, so the code divides.
      pub runs_short : length old / o < length vectors / i → Runs t vectors old (whole 12) old
      runs_short l =
          let s : length old < clocks net vectors * outputs net = omega (arith, (div-lt_iff_lt-mul {k = o} {x = length old} {y = length vectors / i} run_divisors.1).0 l, clocks_are) in record {
            checked = value n;
            net = net;
            reads = reads;
            answer = past (λ x s. s) (past (row_held f) (here (s, refl)));
            buffer = refl;
          }

      module _ (l : length vectors / i ≤ length old / o) where
        pub run_room : length vectors / i * o ≤ length old
        run_room = (le-div_iff_mul-le {k = o} {x = length vectors / i} {y = length old} run_divisors.1).0 l

        pub run_runnable : Runnable net (length vectors / i) net.start vectors old
        run_runnable =
            record {
              whole = omega (arith, whole_vectors, div-add-mod' (length vectors) i, ap (λ k. length vectors / i * k) p);
              vector_bits = vector_bits;
              fits = all_words_fit net net.start net.edges (start_fits net (reads_steppable reads).fit);
              room = omega (arith, run_room, ap (λ k. length vectors / i * k) q);
            }

        pub runs_done : (words' new : List ℕ) → Ran net (length vectors / i) net.start vectors old words' new
            → Runs t vectors old (value (length vectors / i * o)) new
        runs_done words' new r =
            let put = clocks_from net (clocks net vectors) net.start vectors in
            let k : 0 + length put ≡ length put = omega arith in
            let s : clocks net vectors * outputs net ≤ length old = omega (arith, run_room, clocks_are) in record {
              checked = value n;
              net = net;
              reads = reads;
              answer = past (λ x s. s) (past (row_held f) (needs_room s clocks_are));
              buffer =
                  rw k at
                  (r.puts ∙ ap (λ j. sets old 0 (clocks_from net (length vectors / j) net.start vectors)) p
                  ∙ sets-eq put old 0 (omega (arith, clocks_length net (clocks net vectors) net.start vectors)));
            }

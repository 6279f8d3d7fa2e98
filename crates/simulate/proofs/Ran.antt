-- Clocks in a row: one clock by what its parts do, and the loop over the vectors.
--   reads_zero, reads_steppable    reading says 0; a netlist that reads can be stepped
--   State, Clocked      signals, words and buffer; what the parts of a clock do to them
--   clock_puts, clock_leaves    what they do is one clock: outputs, words
--   clock_words         its words are as many as before
--   clock_size, clock_bits    so are its signals, and bits
--   Running, running_start, running_turn, running_end    the loop
--   turn_room, begun_bits    what each turn finds
use Prim.Native.Nat.{ℕ, suc, ◌+◌, ◌-◌, ◌*◌, ◌<◌, ◌≤◌}
use native.Mathlib.Omega.{arith}
use native.Mathlib.Nat.{suc-mul, mul-le-mul_right}
use native.Mathlib.Numerals.{add-one}
use native.Mathlib.Decide.{dec_lt}
use mathlib.Core.Path.{◌≡◌, refl, sym, ap, ap₂, ◌∙◌, subst}
use mathlib.Core.Bool.{true}
use mathlib.Core.List.{List, [], ◌++◌, append_assoc, append-nil}
use lib.ListN.{length, take, drop, length-append, replicate}
use lib.Seq.{sets, length-sets, ext_get_or, drop-drop}
use Rattle.theory.proofs.numbers.Stores.{sets_sets}
use Rattle.theory.proofs.clocks.Seen.{gather_same}
use Rattle.graph.specs.Columns.{at}
use Rattle.gates.specs.inner.Gates.{AllBits, evaluated}
use Rattle.gates.proofs.Row.{evaluated_length, evaluated_bits}
use Rattle.netlist.specs.declared.Netlist.{Netlist}
use Rattle.netlist.specs.Answer.{value}
use Rattle.netlist.specs.Net.{zeros}
use Rattle.netlist.specs.Read.{Reads}
use Rattle.netlist.proofs.Rows.{zeros_at}
use Rattle.netlist.proofs.Run.{fit_rows, fit_wired}
use Rattle.netlist.proofs.theorems.Refusals.{judged_zero}
use Rattle.netlist.proofs.theorems.Sound.{reads_value, reads_keeps}
use Rattle.simulate.specs.declared.lists.Lists.{Lists}
use Rattle.simulate.specs.declared.plan.Plan.{Plan}
use Rattle.simulate.specs.Clock.{inputs, outputs, values, output_values, shifted, words_after}
use Rattle.simulate.specs.Step.{only_bits}
use Rattle.simulate.specs.Run.{clocks_from}
use Rattle.simulate.specs.inner.Plan.{Planned}
use Rattle.simulate.specs.inner.Lists.{Touched}
use Rattle.simulate.specs.inner.Signals.{with_inputs, with_outputs, with_shifts}
use Rattle.simulate.specs.inner.Ran.{Steppable, Runnable, words_from, Ran}
use Rattle.simulate.proofs.Bits.{bits_at, bits_take, bits_drop}
use Rattle.simulate.proofs.Clock.{Fits, fit_words, after_in, after_out, after_length, fits_after, value_input, output_length}
use Rattle.simulate.proofs.Written.{written_length}
use Rattle.simulate.proofs.Signals.{entered, entered_at, shown_at, shown_stays, entered_length, entered_bits, outputs_put, shifts_in, shifts_out, shifts_length}
use Rattle.simulate.proofs.Evaluated.{Right, right_values}

-- Reading puts nothing out.
pub reads_zero : {t : List ℕ} {n : ℕ} {net : Netlist} → Reads t (value n) net → Reads t (value 0) net
reads_zero {t} {net = net} r = subst (λ n. Reads t (value n) net) (judged_zero net (reads_value r).1) r

pub reads_steppable : {t : List ℕ} {n : ℕ} {net : Netlist} → Reads t (value n) net → Steppable net
reads_steppable r = let k = reads_keeps r in record { fit = k.lines; fans = k.fan_in; no_loop = k.no_loop }

-- ── One clock ───────────────────────────────────────────────────────────────────────────────

-- The signals, the words and the buffer.
pub record State : Type 0 where
  pub sig : List ℕ
  pub words : List ℕ
  pub out : List ℕ

-- What one clock does: the signals it begins with are evaluated, the outputs go to `given`, and the words move on.
pub record Clocked (net : Netlist) (p : Plan) (l : Lists) (vector : List ℕ) (given : ℕ) (s s' : State) : Type 0 where
  pub sig_rows : length s.sig ≡ 1536
  pub words_rows : length s.words ≡ 1024
  pub begun : List ℕ
  pub begins : begun ≡ entered l vector s.words s.sig
  pub evaluates : s'.sig ≡ evaluated net.kind p.node p.first p.sees 0 (length p.node) begun
  pub puts : s'.out ≡ with_outputs l.outputs (length l.outputs) s'.sig given s.out
  pub moves : s'.words ≡ with_shifts l.registers (length l.registers) net.from net.count s'.sig s.words

module _ (net : Netlist) (p : Plan) (plan : Planned net p) (l : Lists) (lists : Touched net l) (ok : Steppable net) (vector : List ℕ)
    {given : ℕ} {s s' : State} (c : Clocked net p l vector given s s') where
  size : length c.begun ≡ 1536
  size = ap length c.begins ∙ entered_length l vector s.words s.sig ∙ c.sig_rows

  -- The inputs' places are not the registers'.
  starts : Right net p plan ok s.words vector (entered l vector s.words s.sig) 0
  starts =
      let rows = fit_rows net ok.fit in
      let put = with_inputs l.inputs (length l.inputs) vector s.sig in record {
        inputs = λ v h q.
            shown_stays net l lists s.words put v (omega (arith, rows.0))
            ∙ entered_at net l lists vector s.sig (omega (arith, rows.0, c.sig_rows)) v h q
            ∙ sym (value_input net (fit_wired net ok.fit) ok.no_loop s.words vector v h q);
        done = λ i h. absurd (let y : ⊥ = omega arith in y);
        shows = shown_at net l lists s.words put (omega (arith, rows.1, c.sig_rows, written_length (at l.inputs) (at vector) (length l.inputs) s.sig));
      }

  ends : (v : ℕ) → v < net.nodes → at s'.sig v ≡ values net s.words vector v
  ends v h = ap (λ xs. at xs v) c.evaluates ∙ right_values net p plan ok s.words vector c.begun size (subst (λ xs. Right net p plan ok s.words vector xs 0) (sym c.begins) starts) v h

  pub clock_puts : s'.out ≡ sets s.out given (output_values net s.words vector)
  unfolding output_values
  clock_puts =
      c.puts ∙ outputs_put net l lists s'.sig given s.out
      ∙ ap (sets s.out given) (gather_same (at net.kind) (at s'.sig) (values net s.words vector) 1 net.nodes (λ v h q. ends v h))

  pub clock_words : length s'.words ≡ 1024
  clock_words = ap length c.moves ∙ shifts_length net l lists s'.sig s.words ∙ c.words_rows

  pub clock_leaves : s'.words ≡ words_after net s.words vector
  clock_leaves = ext_get_or 0 s'.words (words_after net s.words vector) (clock_words ∙ sym (after_length net s.words vector few ∙ c.words_rows)) (λ e h. go e (dec_lt e net.edges))
    where
      few : net.edges ≤ length s.words
      few = omega (arith, (fit_rows net ok.fit).1, c.words_rows)

      go : (e : ℕ) → Dec (e < net.edges) → at s'.words e ≡ at (words_after net s.words vector) e
      go e (yes h) =
          ap (λ xs. at xs e) c.moves ∙ shifts_in net l lists s'.sig s.words few e h
          ∙ ap (shifted (at net.count e) (at s.words e)) (ends (at net.from e) ((fit_wired net ok.fit).src_in e h))
          ∙ sym (after_in net s.words vector e h)
      go e (no h) =
          ap (λ xs. at xs e) c.moves ∙ shifts_out net l lists s'.sig s.words e (omega arith)
          ∙ sym (after_out net s.words vector e (omega arith))

  pub clock_size : length s'.sig ≡ 1536
  clock_size = ap length c.evaluates ∙ evaluated_length net.kind p.node p.first p.sees 0 c.begun (length p.node) ∙ size

  pub clock_bits : AllBits vector → AllBits s.sig → AllBits s'.sig
  clock_bits v b =
      subst AllBits (sym c.evaluates) (evaluated_bits net.kind p.node p.first p.sees 0 c.begun (length p.node)
      (subst AllBits (sym c.begins) (entered_bits l vector s.words s.sig v b)))

-- ── The loop ────────────────────────────────────────────────────────────────────────────────

-- After t of n clocks: what is put out and what is still to be put out are the outputs of all clocks; so for the words.
pub record Running (net : Netlist) (n : ℕ) (words₀ vectors old : List ℕ) (t used given : ℕ) (s : State) : Type 0 where
  pub low : t ≤ n
  pub vectors_used : used ≡ t * inputs net
  pub outputs_given : given ≡ t * outputs net
  pub sig_size : length s.sig ≡ 1536
  pub sig_bits : AllBits s.sig
  pub words_size : length s.words ≡ 1024
  pub fits : Fits net s.words
  pub done : List ℕ
  pub done_size : length done ≡ given
  pub puts : s.out ≡ sets old 0 done
  pub goes : done ++ clocks_from net (n - t) s.words (drop used vectors) ≡ clocks_from net n words₀ vectors
  pub moves : words_from net (n - t) s.words (drop used vectors) ≡ words_from net n words₀ vectors

pub bits_none : AllBits (replicate 1536 0)
unfolding zeros
bits_none k = omega (arith, zeros_at 1536 k)

-- One more of n parts of k.
part_in : (t n k : ℕ) → t < n → t * k + k ≤ n * k
part_in t n k h = omega (arith, mul-le-mul_right k h, suc-mul t k)

module _ (net : Netlist) (ok : Steppable net) (n : ℕ) (words₀ vectors old : List ℕ) (ask : Runnable net n words₀ vectors old) where
  pub running_start : length words₀ ≡ 1024 → (sig : List ℕ) → length sig ≡ 1536 → AllBits sig
      → Running net n words₀ vectors old 0 0 0 (record { sig = sig; words = words₀; out = old })
  running_start l sig size b = record {
    low = omega arith;
    vectors_used = omega arith;
    outputs_given = omega arith;
    sig_size = size;
    sig_bits = b;
    words_size = l;
    fits = fit_words net words₀ net.edges ask.fits;
    done = [];
    done_size = refl;
    puts = refl;
    goes = ap (λ k. clocks_from net k words₀ vectors) (let z : n - 0 ≡ n = omega arith in z);
    moves = ap (λ k. words_from net k words₀ vectors) (let z : n - 0 ≡ n = omega arith in z);
  }

  pub running_end : (t used given : ℕ) (s : State) → n ≤ t → Running net n words₀ vectors old t used given s → Ran net n words₀ vectors old s.words s.out
  unfolding clocks_from words_from
  running_end t used given s h r =
      let z : n - t ≡ 0 = omega arith in record {
        puts =
            r.puts
            ∙ ap (sets old 0)
            (sym (append-nil r.done) ∙ ap (λ k. r.done ++ clocks_from net k s.words (drop used vectors)) (sym z) ∙ r.goes);
        leaves = ap (λ k. words_from net k s.words (drop used vectors)) (sym z) ∙ r.moves;
      }

  module _ {t used given : ℕ} {s : State} (h : t < n) (r : Running net n words₀ vectors old t used given s) where
    -- There is a vector left, and room for its outputs.
    pub turn_room : (used + inputs net ≤ length vectors) × (given + outputs net ≤ length old) × (given + outputs net ≤ length s.out)
    turn_room =
        let o : given + outputs net ≤ length old = omega (arith, part_in t n (outputs net) h, r.outputs_given, ask.room) in
        (omega (arith, part_in t n (inputs net) h, r.vectors_used, ask.whole), o, omega (arith, ap length r.puts, length-sets old 0 r.done))

    abbrev pub vector : List ℕ
    vector = take (inputs net) (drop used vectors)

    vector_bits : only_bits vector ≡ true
    vector_bits = bits_take (inputs net) (drop used vectors) (bits_drop used vectors ask.vector_bits)

    -- A clock begins: its signals are bits.
    pub begun_bits : (l : Lists) (begun : List ℕ) → begun ≡ entered l vector s.words s.sig → AllBits begun
    begun_bits l begun e = subst AllBits (sym e) (entered_bits l vector s.words s.sig (λ k. bits_at vector k vector_bits) r.sig_bits)

    module _ (p : Plan) (plan : Planned net p) (l : Lists) (lists : Touched net l) where
      pub running_turn : (used' given' : ℕ) → used' ≡ used + inputs net → given' ≡ given + outputs net → (s' : State) → Clocked net p l vector given s s'
          → Running net n words₀ vectors old (t + 1) used' given' s'
      unfolding clocks_from words_from
      running_turn used' given' i o s' c = record {
        low = omega arith;
        vectors_used = omega (arith, r.vectors_used, ap (λ k. k * inputs net) (add-one t), suc-mul t (inputs net));
        outputs_given = omega (arith, r.outputs_given, ap (λ k. k * outputs net) (add-one t), suc-mul t (outputs net));
        sig_size = clock_size net p plan l lists ok vector c;
        sig_bits = clock_bits net p plan l lists ok vector c (λ k. bits_at vector k vector_bits) r.sig_bits;
        words_size = clock_words net p plan l lists ok vector c;
        fits = subst (Fits net) (sym leaves) (fits_after net (fit_wired net ok.fit) ok.no_loop s.words vector vector_bits r.fits);
        done = r.done ++ put;
        done_size = length-append r.done put ∙ omega (arith, r.done_size, output_length net s.words vector);
        puts = clock_puts net p plan l lists ok vector c ∙ ap (λ xs. sets xs given put) r.puts ∙ sets_sets r.done put old 0 given (omega (arith, r.done_size));
        goes =
            append_assoc r.done put _
            ∙ ap (λ l. r.done ++ l) (ap₂ (λ w l. put ++ clocks_from net (n - (t + 1)) w l) leaves (sym rest) ∙ ap (λ k. clocks_from net k s.words (drop used vectors)) one)
            ∙ r.goes;
        moves = ap₂ (λ w l. words_from net (n - (t + 1)) w l) leaves (sym rest) ∙ ap (λ k. words_from net k s.words (drop used vectors)) one ∙ r.moves;
      }
        where
          put : List ℕ
          put = output_values net s.words vector

          leaves : s'.words ≡ words_after net s.words vector
          leaves = clock_leaves net p plan l lists ok vector c

          rest : drop (inputs net) (drop used vectors) ≡ drop used' vectors
          rest = drop-drop (inputs net) used vectors ∙ ap (λ k. drop k vectors) (sym i)

          one : suc (n - (t + 1)) ≡ n - t
          one = omega arith

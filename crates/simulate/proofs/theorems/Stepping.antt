-- A run is steps, one after the other, and none of them is refused.
--   run_is_stepping     a clock of a run puts out and leaves what a step does
--   step_on             a step that is not refused
--   steps_go_on
use Prim.Native.Nat.{ℕ}
use mathlib.Core.Path.{◌≡◌, refl, sym, ap, ap₂, ◌∙◌, subst}
use mathlib.Core.List.{List, ◌++◌}
use lib.ListN.{length, take, drop}
use lib.Seq.{take_at}
use Rattle.netlist.specs.declared.Netlist.{Netlist}
use Rattle.netlist.specs.Answer.{value, holds}
use Rattle.netlist.specs.Read.{Reads}
use Rattle.netlist.specs.Write.{text_of}
use Rattle.netlist.proofs.theorems.One.{one_reading}
use Rattle.netlist.proofs.theorems.Lines.{lines_fact}
use Rattle.netlist.proofs.theorems.Sound.{reads_value, reads_text, read_is_sound}
use Rattle.simulate.specs.declared.Machine.{Machine}
use Rattle.simulate.specs.Clock.{inputs, outputs, output_values, words_after}
use Rattle.simulate.specs.Step.{step_fits, Steps}
use Rattle.simulate.specs.Run.{clocks_from}
use Rattle.simulate.specs.Theorems.{RunIsStepping, StepsGoOn}
use Rattle.simulate.proofs.Says.{Row, StepGoes, step_goes, step_says}
use Rattle.simulate.proofs.Clock.{fit_words, all_words_fit, start_fits, fits_after, output_length}

-- A text that reads is its netlist's own (`lines_fact`), so the step checks and steps that netlist, and puts out its outputs' values.
pub run_is_stepping : RunIsStepping
unfolding clocks_from
run_is_stepping t net m m' n o vectors old new r w =
    let vector = take (inputs net) vectors in
    let back = w.same in
    let e : t ≡ text_of net = reads_text r in
    let c = one_reading (text_of net) w.checked (value 0) back net w.check (subst (λ x. Reads x (value 0) net) e r) in
    let answer = subst (λ k. Row w.checked (step_fits k m.words vector) (outputs k) (length old) (value o)) c.1 w.answer in
    let number = (step_goes w.checked net m.words vector (length old) o answer).number in
    let words : m'.words ≡ words_after net m.words vector = ap (λ k. k.words) w.machine ∙ ap (λ k. words_after k m.words vector) c.1 in
    let out = output_values net m.words vector in
    let buffer : new ≡ out ++ drop (length out) old = w.buffer ∙ ap (λ k. holds (value o) (output_values k m.words vector) old) c.1 in
    let first : out ≡ take o new = sym (ap (take o) buffer ∙ take_at out (drop (length out) old) o (output_length net m.words vector ∙ sym number)) in
    (number, ap₂ (λ l k. l ++ clocks_from net n k (drop (inputs net) vectors)) first (sym words))

-- A step of a netlist whose own text reads, where neither 13 nor 12 refuses it.
step_on : (net : Netlist) (m : Machine) (vector old : List ℕ) → Reads (text_of net) (value 0) net → StepGoes net m.words vector (length old) (outputs net)
    → Steps net m vector old (value (outputs net)) (record { words = words_after net m.words vector })
    (holds (value (outputs net)) (output_values net m.words vector) old)
step_on net m vector old r g =
    record { checked = value 0; same = net; check = r; answer = step_says net m.words vector (length old) (outputs net) g; machine = refl; buffer = refl }

-- The start values keep rule 4, and a word that has moved on fits its count again (`fits_after`).
pub steps_go_on : StepsGoOn
steps_go_on t net r =
    let f = read_is_sound t net r in
    let l = (lines_fact t net).0 (reads_value r).0 in
    let own = subst (λ x. Reads x (value 0) net) l.2 r in (
      all_words_fit net net.start net.edges (start_fits net l.0),
      λ m vector old fit one b room. (
        record { words = words_after net m.words vector },
        holds (value (outputs net)) (output_values net m.words vector) old,
        step_on net m vector old own (record { one_vector = one; vector_bits = b; all_words_fit = fit; number = refl; has_room = room }),
        all_words_fit net (words_after net m.words vector) net.edges
            (fits_after net f.wired f.no_loop m.words vector b (fit_words net m.words net.edges fit)),
      ),
    )

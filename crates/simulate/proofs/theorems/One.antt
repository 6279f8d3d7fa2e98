-- A run and a step have one outcome at most, as a text has one reading.
--   one_run, one_step
use mathlib.Core.Path.{◌≡◌, sym, ap₂, ◌∙◌, subst₂}
use Prim.Native.Nat.{◌*◌}
use lib.ListN.{length}
use Rattle.netlist.specs.Answer.{holds}
use Rattle.netlist.specs.Write.{text_of}
use Rattle.netlist.proofs.theorems.One.{one_reading}
use Rattle.simulate.specs.Clock.{outputs, output_values}
use Rattle.simulate.specs.Step.{step_fits, machine_after}
use Rattle.simulate.specs.Run.{clocks_from, clocks, run_fits}
use Rattle.simulate.specs.Theorems.{OneRun, OneStep}
use Rattle.simulate.proofs.Says.{Row, row_one}

pub one_run : OneRun
one_run t vectors old s s' new new' w w' =
    let e = one_reading t w.checked w'.checked w.net w'.net w.reads w'.reads in
    let f : s ≡ s' = row_one w'.checked _ _ _ s s' (subst₂ (λ c n. Row c (run_fits n vectors) (clocks n vectors * outputs n) (length old) s) e.0 e.1 w.answer) w'.answer in
    (f, w.buffer ∙ ap₂ (λ c n. holds c (clocks_from n (clocks n vectors) n.start vectors) old) f e.1 ∙ sym w'.buffer)

pub one_step : OneStep
one_step net m vector old s s' m' m'' new new' w w' =
    let e = one_reading (text_of net) w.checked w'.checked w.same w'.same w.check w'.check in
    let f : s ≡ s' = row_one w'.checked _ _ _ s s' (subst₂ (λ c n. Row c (step_fits n m.words vector) (outputs n) (length old) s) e.0 e.1 w.answer) w'.answer in
    (f, w.machine ∙ ap₂ (λ c n. machine_after c n m vector) f e.1 ∙ sym w'.machine, w.buffer ∙ ap₂ (λ c n. holds c (output_values n m.words vector) old) f e.1 ∙ sym w'.buffer)

-- Every run and every step has an outcome, as every text has one.
--   some_run, some_step
use mathlib.Core.Path.{refl}
use Prim.Native.Nat.{◌*◌}
use lib.ListN.{length}
use Rattle.netlist.specs.Answer.{holds}
use Rattle.netlist.specs.Write.{text_of}
use Rattle.netlist.proofs.theorems.Some.{some_reading}
use Rattle.simulate.specs.Clock.{outputs, output_values}
use Rattle.simulate.specs.Step.{step_fits, machine_after}
use Rattle.simulate.specs.Run.{clocks_from, clocks, run_fits}
use Rattle.simulate.specs.Theorems.{SomeRun, SomeStep}
use Rattle.simulate.proofs.Says.{row_some}

pub some_run : SomeRun
some_run t vectors old =
    let r = some_reading t in
    let net = r.1 in
    let a = row_some r.0 (run_fits net vectors) (clocks net vectors * outputs net) (length old) in
    let s = a.0 in
    (s, holds s (clocks_from net (clocks net vectors) net.start vectors) old, record { checked = r.0; net = net; reads = r.2; answer = a.1; buffer = refl })

pub some_step : SomeStep
some_step net m vector old =
    let r = some_reading (text_of net) in
    let same = r.1 in
    let a = row_some r.0 (step_fits same m.words vector) (outputs same) (length old) in
    let s = a.0 in
    (s, machine_after s same m vector, holds s (output_values same m.words vector) old, record { checked = r.0; same = same; check = r.2; answer = a.1; machine = refl; buffer = refl })

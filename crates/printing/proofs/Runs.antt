-- What is printed of a run: its outputs, or the line of its refusal.
--   run_room            the outputs of a run are in its buffer
--   prints_run          what is printed, from how it was put
use Prim.Native.Nat.{ℕ, ◌≤◌}
use native.Mathlib.Omega.{arith}
use mathlib.Core.Path.{◌≡◌}
use mathlib.Core.List.{List}
use lib.ListN.{length}
use Rattle.frame.specs.Frame.{placed}
use Rattle.netlist.specs.Answer.{Said, value}
use Rattle.simulate.specs.Run.{run_fits, Runs}
use Rattle.simulate.proofs.Says.{row_value}
use Rattle.printing.specs.Shown.{line_in}
use Rattle.printing.specs.Printed.{shown_run, PrintsRun}

pub run_room : (t vectors old ran : List ℕ) {n : ℕ} → Runs t vectors old (value n) ran → n ≤ length old
run_room t vectors old ran {n} w =
    let k = row_value w.checked (run_fits w.net vectors) w.answer in
    omega (arith, k.1, k.2)

pub prints_run : (t vectors old ran out : List ℕ) (said : Said) → Runs t vectors old said ran → (new : List ℕ) (n : ℕ)
    → new ≡ placed out 0 (shown_run said ran) → n ≡ line_in (shown_run said ran) out → PrintsRun t vectors old ran out n new
prints_run t vectors old ran out said w new n b r = record { said = said; runs = w; result = r; buffer = b }

-- A text has one outcome at most, and a record one writing.
--   one_reading, one_writing
use mathlib.Core.Path.{◌≡◌, sym, ap, ◌∙◌, subst}
use lib.ListN.{length}
use Rattle.netlist.specs.Answer.{holds}
use Rattle.netlist.specs.Order.{◌or_else◌, Stops, Needs}
use Rattle.netlist.specs.Read.{faulty, judged, kept}
use Rattle.netlist.specs.Write.{text_of}
use Rattle.netlist.specs.Theorems.{OneReading, OneWriting}
use Rattle.netlist.proofs.Order.{else_one, stops_one, needs_one}
use Rattle.netlist.proofs.Judged.{one_judged, reads_judged, reads_fault}

pub one_reading : OneReading
one_reading t s s' net net' (faulty p q) r = let f = reads_fault p r in (sym f.0, q ∙ sym f.1)
one_reading t s s' net net' (judged m p j q) r =
    let k = reads_judged p r in
    let f : s ≡ s' = one_judged m s s' j k.0 in
    (f, q ∙ ap (λ x. kept x m) f ∙ sym k.1)

pub one_writing : OneWriting
one_writing net old s s' new new' w w' =
    let e = one_reading (text_of net) w.checked w'.checked w.same w'.same w.check w'.check in
    let n = length (text_of net) in
    let m = length old in
    let f : s ≡ s' = else_one (stops_one w'.checked) (needs_one n m) s s' (subst (λ c. (Stops c or_else Needs n m) s) e.0 w.answer) w'.answer in
    (f, w.buffer ∙ ap (λ c. holds c (text_of net) old) f ∙ sym w'.buffer)

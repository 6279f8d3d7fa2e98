-- A record's own writing: there is one, and it refuses nothing exactly where the record keeps the rules and there is room.
--   some_writing, sound_written
use Prim.Native.Nat.{ℕ, ◌≤◌}
use mathlib.Core.Path.{refl, sym, subst, subst₂}
use mathlib.Core.List.{List, ◌++◌}
use lib.ListN.{length, drop}
use Rattle.netlist.specs.declared.Netlist.{Netlist}
use Rattle.netlist.specs.Answer.{value, holds}
use Rattle.netlist.specs.Order.{past}
use Rattle.netlist.specs.Read.{Reads}
use Rattle.netlist.specs.Write.{text_of, Writes}
use Rattle.netlist.specs.Theorems.{Typed, Keeps, SomeWriting, SoundWritten}
use Rattle.netlist.proofs.Order.{else_some, stops?, needs_some, needs_room}
use Rattle.netlist.proofs.Judged.{judged_sound}
use Rattle.netlist.proofs.theorems.Some.{some_reading}
use Rattle.netlist.proofs.theorems.Refusals.{judged_keeps}
use Rattle.netlist.proofs.theorems.Record.{record_fact, reads_record, record_judged}
use Rattle.netlist.proofs.theorems.Sound.{reads_value}
use Rattle.netlist.proofs.theorems.RoundTrip.{all_written}

-- The record's text has a reading, and that decides the rest.
pub some_writing : SomeWriting
some_writing net old =
    let r = some_reading (text_of net) in
    let s = else_some (stops? r.0) (needs_some (length (text_of net)) (length old)) in
    (s.0, holds s.0 (text_of net) old, record { checked = r.0; same = r.1; check = r.2; answer = s.1; buffer = refl })

module _ (net : Netlist) (old : List ℕ) where
  -- The rules say nothing against the record, so its text reads (`reads_record`), and there is room.
  written : Keeps net → length (text_of net) ≤ length old → Writes net old (value (length (text_of net))) (text_of net ++ drop (length (text_of net)) old)
  written k room = record {
    checked = value 0;
    same = _;
    check = reads_record net k.lines (judged_sound net k.fan_in k.no_loop k.joined);
    answer = past (λ x g. g) (needs_room room refl);
    buffer = refl;
  }

  -- Its text was read and nothing was refused: so its lines keep their rules (`record_fact`), and 5, 6 and 7 hold of the record itself (`record_judged`).
  keeps : Typed net → (n : ℕ) (new : List ℕ) → Writes net old (value n) new → Keeps net
  keeps t n new w =
      let a = all_written w.checked w.answer in
      let r : Reads (text_of net) (value a.0) w.same = subst (λ s. Reads (text_of net) s w.same) a.1 w.check in
      let f = (record_fact net t).1.0 (w.same, (reads_value r).0) in
      judged_keeps net f (record_judged net f (value a.0) w.same r)

pub sound_written : SoundWritten
sound_written net t old n new = (
  λ w. let a = all_written w.checked w.answer in (keeps net old t n new w, a.3, a.2, w.buffer),
  λ k. subst₂ (λ m x. Writes net old (value m) x) (sym k.2) (sym k.3) (written net old k.0 k.1),
)

-- Every text has an outcome.
--   some_reading
use mathlib.Core.Path.{◌≡◌, refl}
use Rattle.netlist.specs.declared.Netlist.{Netlist}
use Rattle.netlist.specs.Answer.{Said}
use Rattle.netlist.specs.Net.{empty_net}
use Rattle.netlist.specs.Read.{Lines, fault, lines, lines_of, kept, Reads, faulty, judged}
use Rattle.netlist.specs.Theorems.{SomeReading}
use Rattle.netlist.proofs.Run.{fit_wired}
use Rattle.netlist.proofs.Decide.{judge}
use Rattle.netlist.proofs.theorems.Lines.{lines_fact}

-- Its lines have a fault, or they fill a record whose edges join nodes (`lines_fact`), and of that the rules 5, 6 and 7 can be told (`judge`).
pub some_reading : SomeReading
some_reading t = go (lines_of t) refl
  where
    go : (x : Lines) → lines_of t ≡ x → (s : Said) × (net : Netlist) × Reads t s net
    go (fault s) q = (s, empty_net, faulty q refl)
    go (lines read) q = let j = judge read (fit_wired read ((lines_fact t read).0 q).0) in (j.0, kept j.0 read, judged read q j.1 refl)

-- Checking a record.
--   reads_rows                      a record whose text reads has no more nodes and edges than rows
use Prim.Native.Nat.{ℕ, ◌≤◌}
use Rattle.netlist.specs.declared.Netlist.{Netlist}
use Rattle.netlist.specs.Answer.{value}
use Rattle.netlist.specs.Read.{Reads}
use Rattle.netlist.specs.Write.{text_of}
use Rattle.netlist.specs.Theorems.{Typed}
use Rattle.netlist.proofs.Run.{fit_rows}
use Rattle.netlist.proofs.theorems.Record.{record_fact}
use Rattle.netlist.proofs.theorems.Sound.{reads_value}

pub reads_rows : {net : Netlist} → Typed net → {k : ℕ} {back : Netlist} → Reads (text_of net) (value k) back → (net.nodes ≤ 512) × (net.edges ≤ 1024)
reads_rows {net} t {back = back} r = fit_rows net ((record_fact net t).1.0 (back, (reads_value r).0))

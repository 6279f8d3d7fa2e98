-- A netlist that fits has no more edges than a record has rows.
use Rattle.std.proofs.Common.{◌≤◌}
use Rattle.netlist.specs.declared.Netlist.{Netlist}
use Rattle.netlist.specs.Theorems.{Fit}
use Rattle.netlist.proofs.Run.{fit_rows}

pub few_edges : (net : Netlist) → Fit net → net.edges ≤ 1024
few_edges net fit = (fit_rows net fit).1

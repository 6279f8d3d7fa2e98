-- What start values are chosen for.
--   Known               what is known, beside the labels, of a netlist, its new counts, how many values are chosen before each edge and on all, and how many clocks have cells
use Rattle.std.specs.Prelude.{◌≡◌, List, ℕ, ◌+◌, ◌<◌, ◌≤◌, length}
use Rattle.graph.specs.Columns.{at}
use Rattle.netlist.specs.declared.Netlist.{Netlist}
use Rattle.moves.specs.inner.Labels.{Counts, Bases}
use Rattle.choose.specs.inner.Numbers.{LagsBelow}

pub record Known (net : Netlist) (lab counts base : List ℕ) (k clocks : ℕ) : Type 0 where
  pub counted : Counts net lab counts
  pub count_rows : length counts ≡ net.edges
  pub narrow : (e : ℕ) → e < net.edges → at counts e ≤ 32
  pub based : Bases net lab base
  pub base_rows : length base ≡ net.edges + 1
  pub chosen : k ≡ at base net.edges
  pub few : k ≤ 24
  pub low : LagsBelow lab net.nodes clocks

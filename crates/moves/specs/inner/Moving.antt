-- What is known of a netlist and the labels of its least retiming.
--   Moving              once 9 is not said
--   Choosing            once neither 9 nor 10 is said: `base` has how many values are chosen before each edge, and k are chosen on all
use Rattle.std.specs.Prelude.{◌≡◌, List, ℕ, ◌<◌, ◌≤◌, length}
use Rattle.graph.specs.Columns.{at}
use Rattle.netlist.specs.declared.Netlist.{Netlist}
use Rattle.netlist.specs.Circuit.{SoundIn}
use Rattle.simulate.specs.inner.Ran.{Steppable}
use Rattle.lags.specs.inner.Lags.{Sure}
use Rattle.moves.specs.inner.Labels.{Labelled, Counts, Bases}

pub record Moving (net : Netlist) (lab counts : List ℕ) : Type 0 where
  pub steppable : Steppable net
  pub sure : Sure net
  pub sound : SoundIn net
  pub labelled : Labelled net lab
  pub counted : Counts net lab counts
  pub count_rows : net.edges ≤ length counts
  pub narrow : (e : ℕ) → e < net.edges → at counts e ≤ 32

pub record Choosing (net : Netlist) (lab counts base : List ℕ) (k : ℕ) : Type 0 where
  pub moving : Moving net lab counts
  pub based : Bases net lab base
  pub base_rows : net.edges < length base
  pub chosen : k ≡ at base net.edges
  pub few : k ≤ 24

-- Distances, and the labels to start from.
--   start_of            the distance that a node of a kind starts from
--   distance_sum        the sum of all distances: the reason why sweeps end
--   Far                 distances on the way: 0 at a pin, and reached by a walk from one
--   NoShorter           no edge offers a shorter way
--   Shortened           what a sweep does
--   Measured            distances that no edge shortens any more
--   FirstLabels         the labels of such distances
use Rattle.std.specs.Prelude.{◌≡◌, Bool, true, false, cond, List, ℕ, ◌+◌, ◌≤◌, ◌<◌, leb}
use Rattle.theory.specs.Move.{sum}
use Rattle.theory.specs.inner.Arrival.{FromPin}
use Rattle.graph.specs.Columns.{at}
use Rattle.netlist.specs.declared.Netlist.{Netlist}
use Rattle.netlist.specs.Net.{graph_of, regs_of}
use Rattle.netlist.specs.inner.Words.{PinIn}

unfoldable pub start_of : ℕ → ℕ
start_of kind = cond (leb kind 1) 0 16384

abbrev pub distance_sum : Netlist → List ℕ → ℕ
distance_sum net far = sum (λ v. at far v) net.nodes

pub record Far (net : Netlist) (far : List ℕ) : Type 0 where
  pub low : (v : ℕ) → v < net.nodes → at far v ≤ 16384
  pub pins : (v : ℕ) → v < net.nodes → PinIn net v → at far v ≡ 0
  pub reached : (v : ℕ) → v < net.nodes → FromPin (graph_of net) (regs_of net).count v (at far v)

abbrev pub NoShorter : Netlist → List ℕ → ℕ → Type 0
NoShorter net far n = (e : ℕ) → e < n → at far (at net.to e) ≤ at far (at net.from e) + at net.count e

pub record Shortened (net : Netlist) (before after : List ℕ) (changed : Bool) : Type 0 where
  pub far : Far net after
  pub fallen : changed ≡ true → distance_sum net after < distance_sum net before
  pub passed : changed ≡ false → NoShorter net after net.edges

pub record Measured (net : Netlist) (far : List ℕ) : Type 0 where
  pub ways : Far net far
  pub passed : NoShorter net far net.edges

pub record FirstLabels (net : Netlist) (lab : List ℕ) : Type 0 where
  pub far : List ℕ
  pub measured : Measured net far
  pub labels : (v : ℕ) → v < net.nodes → at lab v + at far v ≡ 16384

-- What a clock touches, listed once per run.
--   marked count        1 for each edge with a register, 0 for the others
--   Listed key k n list     the list holds the items below n of key k, in their order
--   Touched net l       the lists of a netlist: its inputs, its outputs and its edges with a register
use Rattle.std.specs.Prelude.{◌≡◌, List, map, ℕ, min}
use Rattle.graph.specs.inner.Sort.{group}
use Rattle.netlist.specs.declared.Netlist.{Netlist}
use Rattle.simulate.specs.declared.lists.Lists.{Lists}

abbrev pub marked : List ℕ → List ℕ
marked count = map (λ w. min 1 w) count

pub record Listed (key : List ℕ) (k n : ℕ) (list : List ℕ) : Type 0 where
  pub items : list ≡ group key k n

pub record Touched (net : Netlist) (l : Lists) : Type 0 where
  pub inputs : Listed net.kind 0 net.nodes l.inputs
  pub outputs : Listed net.kind 1 net.nodes l.outputs
  pub registers : Listed (marked net.count) 1 net.edges l.registers

-- What is due of the cells: the old start values that the moved netlist has to carry. A due is the number 2 i + x: cell i must give x.
--   cell_at             the cell of node v at clock t
--   Carry               the old value s of edge e is to be carried: the node that e leaves gives it at clock t
--   due_of              that value as a due
--   Owed, Dues          the first dues are those of the values that are to be carried: nothing else, and all of them
--   due_at              the same due, by the numbers that it is made of
--   Celled              each node has a cell for each clock below its lag
--   Pushed              f of each number from lo up to hi, put at the end of a list
--   DuesTo              runs of clocks: the dues of all clocks below `low`, and of the first n edges of a list those below `high`, in rows, none of them empty
--   FewRows             how many rows there are at most when all clocks below `low` are put, in runs that end at 1, 3, 7, 15 and 24
use Rattle.std.specs.Prelude.{◌≡◌, List, ℕ, suc, ◌+◌, ◌*◌, ◌-◌, ◌<◌, ◌≤◌, length}
use Rattle.graph.specs.Columns.{at, bit}
use Rattle.graph.specs.inner.Sort.{Stands}
use Rattle.netlist.specs.declared.Netlist.{Netlist}
use Rattle.search.specs.inner.Program.{rows_of, total_of}

abbrev pub cell_at : List ℕ → ℕ → ℕ → ℕ
cell_at id v t = at id (v * 32 + t)

-- "for each edge leaving a node v with positive lag and each old value s of that edge with s at least w − r(v), node v … gives that value at clock s − w + r(v)"
-- That clock is t. (Where the lag is not positive there is no such s.)
pub record Carry (net : Netlist) (lag : ℕ → ℕ) (e s t : ℕ) : Type 0 where
  pub edge : e < net.edges
  pub old : s < at net.count e
  pub clock : t + at net.count e ≡ s + lag (at net.from e)

abbrev pub due_of : Netlist → (ℕ → ℕ → ℕ) → ℕ → ℕ → ℕ → ℕ
due_of net cell e s t = cell (at net.from e) t * 2 + bit (at net.start e) s

pub record Owed (net : Netlist) (lag : ℕ → ℕ) (cell : ℕ → ℕ → ℕ) (due : ℕ) : Type 0 where
  pub edge : ℕ
  pub old : ℕ
  pub clock : ℕ
  pub carry : Carry net lag edge old clock
  pub is : due ≡ due_of net cell edge old clock

pub record Dues (net : Netlist) (lag : ℕ → ℕ) (cell : ℕ → ℕ → ℕ) (due : List ℕ) (total : ℕ) : Type 0 where
  pub sound : (x : ℕ) → x < total → Owed net lag cell (at due x)
  pub complete : (e s t : ℕ) → Carry net lag e s t → Stands due total (due_of net cell e s t)

abbrev pub due_at : List ℕ → ℕ → ℕ → ℕ → ℕ → ℕ → ℕ
due_at id v lag count values s = cell_at id v (s + lag - count) * 2 + bit values s

pub record Celled (lag : ℕ → ℕ) (nodes cells : ℕ) (id : List ℕ) : Type 0 where
  pub rows : length id ≡ 16384
  pub low : (v : ℕ) → v < nodes → lag v ≤ 24
  pub inside : (v t : ℕ) → v < nodes → t < lag v → cell_at id v t < cells

pub record Pushed (f : ℕ → ℕ) (old new : List ℕ) (lo hi : ℕ) : Type 0 where
  pub rows : length new ≡ length old + (hi - lo)
  pub kept : (j : ℕ) → j < length old → at new j ≡ at old j
  pub added : (k : ℕ) → lo + k < hi → at new (length old + k) ≡ f (lo + k)

pub record DuesTo (net : Netlist) (lag : ℕ → ℕ) (id along : List ℕ) (low high n : ℕ) (due begin : List ℕ) : Type 0 where
  pub some : 0 < length begin
  pub none : at begin 0 ≡ 0
  pub rising : (e : ℕ) → e < rows_of begin → (at begin e < at begin (suc e)) × (at begin (suc e) ≤ at begin e + 24)
  pub last : total_of begin ≡ length due
  pub few : length due ≤ 1024 * low + n * (high - low)
  pub sound : (x : ℕ) → x < length due → Owed net lag (cell_at id) (at due x)
  pub complete : (j s t : ℕ) → j < net.edges → t < high → (n ≤ j → t < low) → Carry net lag (at along j) s t → Stands due (length due) (due_of net (cell_at id) (at along j) s t)

pub record FewRows (low rows : ℕ) : Type 0 where
  pub at_0 : low < 1 → rows ≤ 0
  pub to_1 : low < 3 → rows ≤ 1024
  pub to_3 : low < 7 → rows ≤ 2048
  pub to_7 : low < 15 → rows ≤ 3072
  pub to_15 : low < 24 → rows ≤ 4096
  pub to_24 : rows ≤ 5120

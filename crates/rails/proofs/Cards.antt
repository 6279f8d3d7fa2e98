-- The definition computed on small netlists: the total, and then each node's count.
--   net_of              a netlist by its columns, with no delays
--   told net            its total, and then the counts of its nodes
--   fork w a x b        two edges from one node, with w and x registers that start at the words a and b: bit w − 1 and bit x − 1 are nearest
use Rattle.std.proofs.Common.{◌≡◌, List, [], ◌∷◌, ℕ, length, refl}
use Rattle.theory.specs.Move.{sum}
use Rattle.netlist.specs.declared.Netlist.{Netlist}
use Rattle.netlist.specs.Net.{net_with, graph_of, regs_of}
use Rattle.netlist.specs.Write.{joined}
use Rattle.rails.specs.Rails.{agreed, shared_below, rails_at, rails_in}

abbrev net_of : List ℕ → List ℕ → List ℕ → List ℕ → List ℕ → Netlist
net_of kind from to count start = net_with 1 100 (length kind) (length from) kind [] from to count start

abbrev told : Netlist → List ℕ
told net = rails_in (graph_of net) (regs_of net) ∷ joined (λ u. rails_at (graph_of net) (regs_of net) u ∷ []) net.nodes

abbrev fork : ℕ → ℕ → ℕ → ℕ → Netlist
fork w a x b = net_of (0 ∷ 1 ∷ 1 ∷ []) (0 ∷ 0 ∷ []) (1 ∷ 2 ∷ []) (w ∷ x ∷ []) (a ∷ b ∷ [])

-- ── Forks ───────────────────────────────────────────────────────────────────────────────────

equal : told (fork 1 0 1 0) ≡ 1 ∷ 1 ∷ 0 ∷ 0 ∷ []
unfolding sum joined agreed shared_below
equal = refl

-- 10 and 101, the nearest first: the nearest two are shared.
longer : told (fork 2 2 3 5) ≡ 3 ∷ 3 ∷ 0 ∷ 0 ∷ []
unfolding sum joined agreed shared_below
longer = refl

-- 01 and 11 are equal farther out alone; 10 and 11 are equal at the nearest.
farther : told (fork 2 1 2 3) ≡ 4 ∷ 4 ∷ 0 ∷ 0 ∷ []
unfolding sum joined agreed shared_below
farther = refl

nearer : told (fork 2 2 2 3) ≡ 3 ∷ 3 ∷ 0 ∷ 0 ∷ []
unfolding sum joined agreed shared_below
nearer = refl

-- Two of 32 registers that differ in bit 0.
full : told (fork 32 0 32 1) ≡ 33 ∷ 33 ∷ 0 ∷ 0 ∷ []
unfolding sum joined agreed shared_below
full = refl

-- ── Netlists of the bench cards ─────────────────────────────────────────────────────────────

-- A: in a row.
in_line : told (net_of (0 ∷ 3 ∷ 3 ∷ 1 ∷ []) (0 ∷ 1 ∷ 2 ∷ []) (1 ∷ 2 ∷ 3 ∷ []) (1 ∷ 0 ∷ 1 ∷ []) (1 ∷ 0 ∷ 0 ∷ [])) ≡ 2 ∷ 1 ∷ 0 ∷ 1 ∷ 0 ∷ []
unfolding sum joined agreed shared_below
in_line = refl

-- D: a buffer feeds two outputs, through registers of value 0 and of value 1.
branches : told (net_of (0 ∷ 2 ∷ 2 ∷ 1 ∷ 1 ∷ []) (0 ∷ 1 ∷ 2 ∷ 2 ∷ []) (1 ∷ 2 ∷ 3 ∷ 4 ∷ []) (0 ∷ 0 ∷ 1 ∷ 1 ∷ []) (0 ∷ 0 ∷ 0 ∷ 1 ∷ [])) ≡ 2 ∷ 0 ∷ 0 ∷ 2 ∷ 0 ∷ 0 ∷ []
unfolding sum joined agreed shared_below
branches = refl

-- H: an edge from a node to itself with a register, and one to an output with none.
itself : told (net_of (0 ∷ 6 ∷ 1 ∷ []) (0 ∷ 1 ∷ 1 ∷ []) (1 ∷ 1 ∷ 2 ∷ []) (0 ∷ 1 ∷ 0 ∷ []) (0 ∷ 0 ∷ 0 ∷ [])) ≡ 1 ∷ 0 ∷ 1 ∷ 0 ∷ []
unfolding sum joined agreed shared_below
itself = refl

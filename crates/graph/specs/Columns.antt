-- A graph in columns: for each node its gate kind, for each edge the node it leaves and the node it enters.
--   at xs i             the i-th of xs, 0 past its end
--   flag xs i           so of flags, false past their end
--   bit word k          bit k of a word, bit 0 the lowest
--   column_graph        the theory's graph of the columns
--   fan_in G v          how many edges enter v
use Rattle.std.specs.Prelude.{Bool, false, List, ℕ, ◌/◌, ◌%◌, ◌^◌, length, get_or}
use Rattle.theory.specs.Graph.{Graph}
use Rattle.theory.specs.Clock.{gather}

abbrev pub at : List ℕ → ℕ → ℕ
at xs i = get_or xs i 0

abbrev pub flag : List Bool → ℕ → Bool
flag xs i = get_or xs i false

abbrev pub bit : ℕ → ℕ → ℕ
bit word k = word / 2 ^ k % 2

abbrev pub column_graph : ℕ → ℕ → List ℕ → List ℕ → List ℕ → Graph
column_graph nodes edges kind from to = record { nodes = nodes; edges = edges; kind = at kind; src = at from; dst = at to }

abbrev pub fan_in : Graph → ℕ → ℕ
fan_in G v = length (gather G.dst (λ e. e) v G.edges)

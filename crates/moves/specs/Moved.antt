-- The moved netlist: "Moved by lags and a choice, a netlist keeps its head, its nodes and the ends of its edges, and each edge gets its new count and new start values."
--   column, word_of     a column of 1,024 rows; start values as a word
--   with_regs           the netlist with other registers
--   moved_net           the netlist moved by lags and a choice
use Rattle.std.specs.Prelude.{List, [], ◌∷◌, ◌++◌, ℕ, ◌*◌, ◌-◌, ◌^◌, ℤ}
use Rattle.theory.specs.Clock.{Regs}
use Rattle.theory.specs.Gate.{gate}
use Rattle.theory.specs.Move.{sum}
use Rattle.theory.specs.Retimer.{retimed}
use Rattle.netlist.specs.declared.Netlist.{Netlist}
use Rattle.netlist.specs.Net.{zeros, with_columns, graph_of, regs_of}
use Rattle.netlist.specs.Write.{joined}

-- n rows by f and 0 past them, in a column of 1,024.
abbrev pub column : (ℕ → ℕ) → ℕ → List ℕ
column f n = joined (λ e. f e ∷ []) n ++ zeros (1024 - n)

-- Start values as a word: bit k is start value k.
abbrev pub word_of : (ℕ → ℕ) → ℕ → ℕ
word_of start count = sum (λ k. start k * 2 ^ k) count

-- "Moved by lags and a choice, a netlist keeps its head, its nodes and the ends of its edges, and each edge gets its new count and new start values."
abbrev pub with_regs : Netlist → Regs → Netlist
with_regs net R = with_columns net (column R.count net.edges) (column (λ e. word_of (R.start e) (R.count e)) net.edges)

-- The netlist moved by the lags r and the choice that is the number c.
unfoldable pub moved_net : Netlist → (ℕ → ℤ) → ℕ → Netlist
moved_net net r c = with_regs net (retimed gate (graph_of net) (regs_of net) r c)

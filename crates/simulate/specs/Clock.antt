-- One clock of a netlist, on machine words and one vector. The gates and the values within a clock are the theory's (specs/Gate, specs/Step).
--   earlier             how many nodes of a kind stand before a node
--   inputs, outputs     how many there are
--   input_byte          an input's byte
--   values              each node's value in this clock
--   output_values       those of the outputs, in node order
--   shifted             a word moved down a bit, with a value at the top
--   words_after         the words that the clock leaves
use Rattle.std.specs.Prelude.{cond, List, [], ◌∷◌, ◌++◌, ℕ, ◌+◌, ◌-◌, ◌*◌, ◌^◌, ◌/◌, eqb, length, get_or, drop}
use Rattle.theory.specs.Clock.{gather}
use Rattle.theory.specs.Step.{one_clock}
use Rattle.theory.specs.Gate.{gate}
use Rattle.netlist.specs.declared.Netlist.{Netlist}
use Rattle.graph.specs.Columns.{bit}
use Rattle.netlist.specs.Net.{graph_of, regs_of}
use Rattle.netlist.specs.Write.{joined}

-- How many nodes below v have the gate kind k.
unfoldable pub earlier : Netlist → ℕ → ℕ → ℕ
earlier net k v = length (gather (graph_of net).kind (λ u. u) k v)

abbrev pub inputs : Netlist → ℕ
inputs net = earlier net 0 net.nodes

abbrev pub outputs : Netlist → ℕ
outputs net = earlier net 1 net.nodes

-- "A vector holds one byte, 0 or 1, per input in node order": the byte of the input v.
abbrev pub input_byte : Netlist → List ℕ → ℕ → ℕ
input_byte net vector v = get_or vector (earlier net 0 v) 0

-- "The entered node sees bit 0, or the value of u in this same clock when w is 0."
unfoldable pub values : Netlist → List ℕ → List ℕ → ℕ → ℕ
values net words vector v = one_clock gate (graph_of net) (regs_of net) (λ e k. bit (get_or words e 0) k) (input_byte net vector) v

-- "outputs come the same way."
unfoldable pub output_values : Netlist → List ℕ → List ℕ → List ℕ
output_values net words vector = gather (graph_of net).kind (values net words vector) 1 net.nodes

-- "Then, where w is above 0, the word moves down a bit and u's value becomes bit w − 1." (With w at 0 it stays.)
abbrev pub shifted : ℕ → ℕ → ℕ → ℕ
shifted w word x = cond (eqb w 0) word (word / 2 + x * 2 ^ (w - 1))

abbrev pub word_after : Netlist → List ℕ → List ℕ → ℕ → ℕ
word_after net words vector e = shifted ((regs_of net).count e) (get_or words e 0) (values net words vector ((graph_of net).src e))

-- "words past the E-th are neither read nor changed."
unfoldable pub words_after : Netlist → List ℕ → List ℕ → List ℕ
words_after net words vector = joined (λ e. word_after net words vector e ∷ []) net.edges ++ drop net.edges words

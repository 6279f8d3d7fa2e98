-- The walk from the inputs, pass by pass. Request F-5: "a debugger that stops after a pass shows just these marks in one struct."
--   no_marks            marks of no node
--   empty_layer         no pass made, no node marked
--   says_walked, layer_of    what a call's result says and gives: how many nodes, and the layer; or a refusal, and an empty layer
--   WalksBy x most s layer    the walk, where the lines of a text come to x
--   Walks t most s layer      at most `most` passes of the walk from the inputs of the text t say s and give layer
-- It is a walk of the lines alone: 5, 6 and 7 stop no pass, so that it can be seen of a netlist that gets number 7 which nodes are marked after each.
use Rattle.std.specs.Prelude.{◌≡◌, Bool, false, List, ℕ, replicate, Result, Ok, Err}
use Rattle.graph.specs.declared.layers.Layer.{Layer}
use Rattle.graph.specs.Layers.{LayerFrom}
use Rattle.netlist.specs.declared.Refusal.{Refusal}
use Rattle.netlist.specs.declared.Walked.{Walked}
use Rattle.netlist.specs.Answer.{Said, value, refusal}
use Rattle.netlist.specs.Net.{zeros, graph_of}
use Rattle.netlist.specs.Read.{Lines, fault, lines, lines_of}

-- Shut, so that no goal shows 512 rows.
unfoldable pub no_marks : List Bool
no_marks = replicate 512 false

abbrev pub empty_layer : Layer
empty_layer = record { passes = 0; lo = 0; hi = 0; queue = zeros 512; marks = no_marks }

abbrev pub says_walked : Result Walked Refusal → Said
says_walked (Ok w) = value w.nodes
says_walked (Err r) = refusal r

abbrev pub layer_of : Result Walked Refusal → Layer
layer_of (Ok w) = w.layer
layer_of (Err r) = empty_layer

-- Inputs are the nodes of kind 0. Where the lines are right, it says how many nodes there are: so many marks count.
abbrev pub WalksBy : Lines → ℕ → Said → Layer → Type 0
WalksBy (fault x) most s layer = (s ≡ x) × (layer ≡ empty_layer)
WalksBy (lines net) most s layer = (s ≡ value net.nodes) × LayerFrom (graph_of net) 0 most layer

abbrev pub Walks : List ℕ → ℕ → Said → Layer → Type 0
Walks t most s layer = WalksBy (lines_of t) most s layer

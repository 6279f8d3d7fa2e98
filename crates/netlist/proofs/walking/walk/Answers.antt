-- `netlist::walking::walk` meets its contract: the lines, then the passes over their columns.
use Rattle.std.proofs.Common.{◌≡◌, ℕ, List, refl}
use Rattle.graph.specs.declared.layers.Layer.{Layer}
use Rattle.graph.specs.Columns.{column_graph}
use Rattle.graph.specs.Layers.{LayerFrom}
use Rattle.graph.proofs.Passes.{layer_from}
use Rattle.netlist.specs.declared.Netlist.{Netlist}
use Rattle.netlist.specs.Answer.{value}
use Rattle.netlist.specs.Net.{graph_of}
use Rattle.netlist.specs.Read.{lines, lines_of}
use Rattle.netlist.specs.Walk.{Walks}
use Rattle.netlist.proofs.Exits.{left_by}
use Rattle.netlist.proofs.Answered.{lined_fit}
use Rattle.netlist.proofs.Wiring.{of_wires}
use Rattle.netlist.proofs.walking.walk.Goals as goal

pub returns-in_err-net : goal.returns-in_err-net
returns-in_err-net c = let e = c.in_err-net.ensures in rw (left_by c.from_residual.ensures, e) (refl, refl)

pub wires-requires : goal.wires-requires
wires-requires c = lined_fit _ _ c.in_ok-net.ensures

walked : (t : List ℕ) (net : Netlist) (most : ℕ) (layer : Layer) → lines_of t ≡ lines net → LayerFrom (graph_of net) 0 most layer → Walks t most (value net.nodes) layer
walked t net most layer e f = rw e (refl, f)

pub returns : goal.returns
returns c =
    let w = c.walk-layer in
    let net = c.in_ok-net.net in
    walked _ _ _ _ c.in_ok-net.ensures
    (of_wires c.wires.ensures (λ n m from to. LayerFrom (column_graph n m net.kind from to) 0 c.args.most w.result) (layer_from w.result w.ensures.after w.ensures.few w.ensures.ended))

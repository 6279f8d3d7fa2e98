-- `simulate::touched::lists_of` meets its contract: what is listed is a node or an edge.
use Rattle.std.proofs.Common.{arith}
use Rattle.simulate.proofs.Listed.{listed_within}
use Rattle.simulate.proofs.touched.lists_of.Goals as goal

pub invariant_of-result : goal.invariant_of-result
invariant_of-result c =
    let a = c.args.circuit in record {
      inputs_in = listed_within c.list_kind.ensures _ (omega (arith, a.few_nodes));
      outputs_in = listed_within c.list_kind-2.ensures _ (omega (arith, a.few_nodes));
      registers_in = listed_within c.list_registers.ensures _ (omega (arith, a.few_edges));
    }

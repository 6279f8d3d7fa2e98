-- `quote::quote_net` meets its contract: 8, or the figures of the smallest period that is met.
use Rattle.std.proofs.Common.{arith, sym, ◌∙◌, length-take-le}
use Rattle.quote.proofs.Call.{none}
use Rattle.quote.proofs.Figures.{few_edges, counts_small, total_small, total_part, largest_part, figures}
use Rattle.quote.proofs.quote_net.Goals as goal

pub returns-in_default : goal.returns-in_default
returns-in_default c = none c.in_default.ensures

pub invariant_of-by : goal.invariant_of-by
invariant_of-by c = record { labelled = c.in-Some.ensures.labelled }

pub slice_bounds-moved-end : goal.slice_bounds-moved-end
slice_bounds-moved-end c = let few = few_edges _ c.requires in sym (length-take-le c.args.net.edges c.new_counts-counts.result (omega arith))

pub total-requires : goal.total-requires
total-requires c =
    let n = c.new_counts-counts in
    let few = few_edges _ c.requires in
    total_small n.result c.args.net.edges (omega arith) few (counts_small _ _ n.result n.ensures c.in-Some.ensures.labelled)

pub returns : goal.returns
returns c =
    let n = c.new_counts-counts in
    let e = c.args.net.edges in
    let few = few_edges _ c.requires in
    figures _ _ n.result n.ensures c.in-Some.ensures c.chosen-base.result c.chosen-base.ensures
    (c.total.ensures ∙ total_part n.result e (omega arith)) (largest_part n.result e c.largest.result (omega arith) c.largest.ensures.above c.largest.ensures.least)

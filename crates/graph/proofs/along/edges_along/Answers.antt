-- `graph::along::edges_along` meets its contract: sorted by any low key, the edges are all there.
use Rattle.std.proofs.Common.{length, arith}
use Rattle.graph.specs.Columns.{at}
use Rattle.graph.proofs.ByNode.{sorts_each}
use Rattle.graph.proofs.Places.{place_low}
use Rattle.graph.proofs.along.edges_along.Goals as goal

pub returns : goal.returns
returns c =
    let a = c.args in
    let r = c.requires in
    sorts_each c.place_keys-key.result (length a.order.now) (length a.from.now)
    (λ e h. rw (c.place_keys-key.ensures e h) (place_low a.order.now (length a.order.now) c.places_of-place.result c.places_of-place.ensures (omega (arith, r.edges_bound.1 e h)) (at a.from.now e))) r.edges_bound.0 c.edges_by_node.ensures

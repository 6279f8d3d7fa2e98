-- `graph::along::place_keys` meets its contract: each key is made of its edge's place.
use Rattle.std.proofs.Common.{rules}
use Rattle.graph.proofs.along.place_keys.Goals as goal

pub returns : goal.returns
returns c e h = let k = c.column.ensures.made_of e h in search rules

-- `gates::values::Gate::value` meets its contract: the table picks the bit of the truth word that the gathered word asks for.
use Rattle.std.proofs.Common.{map, arith, ap, ◌∙◌}
use lib.ListN.{length-map}
use Rattle.graph.specs.Columns.{at, bit}
use Rattle.gates.specs.inner.Gates.{picked}
use Rattle.gates.proofs.Row.{seen_bits}
use Rattle.gates.proofs.values.Gate.value.Goals as goal

pub returns : goal.returns
returns c =
    let a = c.args in
    let g = a.self in (
      omega arith,
      λ kind right.
          ap (bit g.truth) (c.bit_of-bit.ensures.0 ∙ ap picked c.gather-word.ensures.0)
          ∙ right.gives (map (at a.sig.now) g.sees.now) (length-map g.sees.now (at a.sig.now)) (seen_bits g.truth g.sees.now a.sig.now c.requires),
    )

-- `choose::choosing::choose` meets its contract: the words are those of the number that is taken.
use Rattle.std.proofs.Common.{◌+◌, arith}
use Rattle.std.proofs.lemmas.List.{length-take-le}
use Rattle.moves.proofs.Labels.{low_edges}
use Rattle.choose.proofs.Chosen.{rises, chosen}
use Rattle.choose.proofs.choosing.choose.Goals as goal

pub words-requires : goal.words-requires
words-requires c =
    let of = c.args.of in
    let many = length-take-le (of.net.now.edges + 1) c.args.base.now (omega (arith, c.requires.base_rows)) in
    (omega (arith, many), omega (arith, many, low_edges _ _ of.labelled), rises c.requires)

pub returns : goal.returns
returns c = chosen c.requires _ _ c.in_ok-number.ensures c.words.ensures

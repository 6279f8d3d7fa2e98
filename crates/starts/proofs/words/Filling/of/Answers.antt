-- The chosen values are the first of the edge's new ones, and as many as the label and the new count say.
use Rattle.std.proofs.Common.{arith}
use Rattle.graph.specs.Columns.{at}
use Rattle.moves.proofs.Labels.{low_edges, chosen_is}
use Rattle.starts.proofs.Found.{fillable, shown_rows}
use Rattle.starts.proofs.words.Filling.of.Goals as goal

pub bounds-from-e : goal.bounds-from-e
bounds-from-e c = let m = c.args.from in omega (arith, low_edges m.net.now m.lab.now m.labelled, c.requires.2)

pub of-requires : goal.of-requires
of-requires c = let m = c.args.from in shown_rows m.net.now m.lab.now m.labelled c.args.e c.requires.2

pub invariant_of-result : goal.invariant_of-result
invariant_of-result c =
    let a = c.args in
    let m = a.from in
    let many = chosen_is m.net.now m.lab.now a.counts.now c.requires.0.counted a.e c.requires.2 _ _ c.up_of.ensures c.chosen_on.ensures in
    let f = fillable m.net.now m.lab.now a.counts.now c.requires.0 a.e c.requires.2 _ many (at a.words.now a.e) (c.requires.1.fits a.e c.requires.2) in
    record { short = f.0; rises = f.1; few = f.2; shown = f.3 }

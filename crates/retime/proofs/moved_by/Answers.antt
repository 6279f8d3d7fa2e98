-- `retime::moved_by` meets its contract: 9, 10, 11, or the moved netlist.
use Rattle.std.proofs.Common.{◌≡◌, ℕ, Option, Some, None, List, length, take, arith, rules, refl, sym, ap, subst, length-take-le}
use Rattle.graph.specs.Columns.{at}
use Rattle.netlist.specs.declared.Netlist.{Netlist}
use Rattle.netlist.specs.Answer.{value}
use Rattle.netlist.specs.Circuit.{SoundIn, NarrowAt}
use Rattle.netlist.specs.Net.{graph_of, regs_of}
use Rattle.simulate.specs.inner.Ran.{Steppable}
use Rattle.lags.specs.inner.Lags.{Sure}
use Rattle.theory.specs.Move.{chosen_in}
use Rattle.theory.specs.Retimer.{TooMany}
use Rattle.moves.specs.declared.counts.Move.{Move}
use Rattle.moves.specs.inner.Labels.{lags_of, Counts, Bases, Wide}
use Rattle.moves.specs.inner.Moving.{Moving}
use Rattle.moves.proofs.Labels.{low_edges, wide_cut, wide_edge, wide_none}
use Rattle.moves.proofs.Words.{words_short}
use Rattle.retime.specs.Retime.{MovedBy}
use Rattle.retime.proofs.Order.{wide, many, startless, moved}
use Rattle.retime.proofs.moved_by.Goals as goal

-- What the new counts, and the values chosen before each edge, say of a move.
module _ (m : Move) (counts : List ℕ) (rows : length counts ≡ 1024) (counted : Counts m.net.now m.lab.now counts) where
  abbrev net : Netlist
  net = m.net.now

  found : (o : Option ℕ) → Wide (take net.edges counts) (length (take net.edges counts)) o → Wide counts net.edges o
  found o = wide_cut counts net.edges (omega (arith, low_edges _ _ m.labelled)) o

  narrow : Wide (take net.edges counts) (length (take net.edges counts)) None → NarrowAt net (lags_of m.lab.now)
  narrow w = wide_none net m.lab.now counts counted (found None w)

  moving : Steppable net × Sure net × SoundIn net → Wide (take net.edges counts) (length (take net.edges counts)) None → Moving net m.lab.now counts
  moving (steppable, sure, sound) w = record {
    steppable = steppable;
    sure = sure;
    sound = sound;
    labelled = m.labelled;
    counted = counted;
    count_rows = omega (arith, low_edges _ _ m.labelled);
    narrow = found None w;
  }

-- How many values are chosen on all edges.
all_chosen : (m : Move) (base : List ℕ) → Bases m.net.now m.lab.now base → at base m.net.now.edges ≡ chosen_in (graph_of m.net.now) (regs_of m.net.now).count (lags_of m.lab.now)
all_chosen m base b = b m.net.now.edges (omega arith)

pub slice_bounds-counts-end : goal.slice_bounds-counts-end
slice_bounds-counts-end c = omega (arith, low_edges _ _ c.args.least.labelled)

pub slice_bounds-too_wide-end : goal.slice_bounds-too_wide-end
slice_bounds-too_wide-end c = let few = low_edges _ _ c.args.least.labelled in sym (length-take-le c.args.least.net.now.edges c.new_counts-counts.result (omega arith))

pub returns-in-Some : goal.returns-in-Some
returns-in-Some c =
    let m = c.args.least in
    let n = c.new_counts-counts in
    wide m.net.now (lags_of m.lab.now) 0 c.requires.least_lags c.in-Some.wide
    (wide_edge m.net.now m.lab.now n.result c.in-Some.wide n.ensures (found m n.result (search rules) n.ensures (Some c.in-Some.wide) c.in-Some.ensures))

pub chosen-base-requires : goal.chosen-base-requires
chosen-base-requires c = (c.new_counts-counts.ensures, omega (arith, low_edges _ _ c.args.least.labelled))

pub bounds-base-edges : goal.bounds-base-edges
bounds-base-edges c = omega (arith, low_edges _ _ c.args.least.labelled)

pub returns-then-k-gt-MOST_CHOSEN : goal.returns-then-k-gt-MOST_CHOSEN
returns-then-k-gt-MOST_CHOSEN c =
    let m = c.args.least in
    let n = c.new_counts-counts in
    let all = all_chosen m c.chosen-base.result c.chosen-base.ensures in
    many m.net.now (lags_of m.lab.now) 0 c.requires.least_lags (narrow m n.result (search rules) n.ensures c.in_default.ensures) (omega arith)

pub choose-requires : goal.choose-requires
choose-requires c = record {
  moving = moving c.args.least c.new_counts-counts.result (search rules) c.new_counts-counts.ensures c.requires.sure c.in_default.ensures;
  based = c.chosen-base.ensures;
  base_rows = omega (arith, low_edges _ _ c.args.least.labelled);
  chosen = refl;
  few = omega arith;
}

pub returns-in_default-choose : goal.returns-in_default-choose
returns-in_default-choose c =
    let m = c.args.least in
    let n = c.new_counts-counts in
    let all = all_chosen m c.chosen-base.result c.chosen-base.ensures in
    let few : ¬ TooMany (graph_of m.net.now) (regs_of m.net.now).count (lags_of m.lab.now) = λ h. omega (arith, all) in
    startless m.net.now (lags_of m.lab.now) 0 c.requires.least_lags (narrow m n.result (search rules) n.ensures c.in_default.ensures) few c.in_default-choose.ensures

pub moved-requires : goal.moved-requires
moved-requires c =
    let words = c.in-Some-choose.words in
    let rows : length words ≡ 1024 = search rules in
    let b = c.in-Some-choose.ensures in
    (moving c.args.least c.new_counts-counts.result (search rules) c.new_counts-counts.ensures c.requires.sure c.in_default.ensures, words_short _ _ b.number _ (omega (arith, low_edges _ _ c.args.least.labelled)) b.its_words)

pub returns : goal.returns
returns c =
    let m = c.args.least in
    let n = c.new_counts-counts in
    let b = c.in-Some-choose.ensures in
    let all = all_chosen m c.chosen-base.result c.chosen-base.ensures in
    let few : ¬ TooMany (graph_of m.net.now) (regs_of m.net.now).count (lags_of m.lab.now) = λ h. omega (arith, all) in
    record {
      choice = b.number;
      answer = subst (MovedBy m.net.now (lags_of m.lab.now) b.number) (ap value (sym all))
          (moved m.net.now (lags_of m.lab.now) b.number c.requires.least_lags (narrow m n.result (search rules) n.ensures c.in_default.ensures) few b.best);
      moved = c.moved.ensures b.number b.its_words;
    }

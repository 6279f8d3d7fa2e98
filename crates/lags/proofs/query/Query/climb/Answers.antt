-- `lags::query::Query::climb` meets its contract. The loop keeps marks that are below every legal retiming that meets the period.
use Rattle.std.proofs.Common.{arith, sym, ap, ◌∙◌}
use Rattle.std.proofs.lemmas.List.{get_or-take, length-take-le}
use Rattle.lags.specs.inner.Climb.{label_of}
use Rattle.lags.proofs.Wires.{few_nodes}
use Rattle.graph.proofs.Answers.{same_at}
use Rattle.netlist.proofs.Run.{fit_rows}
use Rattle.lags.proofs.Found.{climb_start, climb_none, climb_slow, climb_found}
use Rattle.lags.proofs.query.Query.climb.Goals as goal

pub returns-then-any_late : goal.returns-then-any_late
returns-then-any_late c = climb_none _ _ c.requires.sure (climb_slow c.requires c.if-any_late.ensures)

pub loop-sweep-init : goal.loop-sweep-init
loop-sweep-init c =
    let n = (fit_rows c.args.self.now.net.now c.requires.sure.fit).0 in
    climb_start c.args.self.now.net.now c.args.self.now.period _ (same_at 512 0 n)

pub slice_bounds-labels_of-end : goal.slice_bounds-labels_of-end
slice_bounds-labels_of-end c =
    let net = c.args.self.now.net.now in
    sym (length-take-le net.nodes c.sweep.new.mark (omega (arith, few_nodes net c.requires.sure)))

pub returns-in-Still : goal.returns-in-Still
returns-in-Still c =
    let net = c.args.self.now.net.now in
    let o = c.in-Still.ensures in
    let all = length-take-le net.nodes c.sweep.new.mark (omega (arith, few_nodes net c.requires.sure)) in
    climb_found c.requires c.if-any_late.ensures _ o.0 o.1 c.labels_of.result
    (λ v h. c.labels_of.ensures v (omega arith) ∙ ap label_of (get_or-take net.nodes c.sweep.new.mark v 0 h))

pub returns-in-Late : goal.returns-in-Late
returns-in-Late c = climb_none _ _ c.requires.sure c.in-Late.ensures

-- `choose::dues::Rows::put_run` meets its contract: the dues of the edge at hand are put, in a row of its own unless there is none.
use Rattle.std.proofs.Common.{◌≡◌, ◌<◌, ◌+◌, ◌-◌, ℕ, List, [], ◌∷◌, length, length-append, arith, refl, sym, ap, subst, ◌∙◌, min}
use Rattle.graph.specs.Columns.{at}
use Rattle.graph.specs.inner.Sort.{EachEdge}
use Rattle.netlist.specs.declared.Netlist.{Netlist}
use Rattle.moves.specs.inner.Labels.{Labelled}
use Rattle.moves.proofs.Labels.{from_node, low_edges}
use Rattle.choose.specs.inner.Numbers.{lag_at}
use Rattle.choose.specs.inner.Dues.{due_at, Pushed}
use Rattle.choose.proofs.Runs.{run_ends, run_room, few_pushed, dues_more}
use Rattle.choose.proofs.dues.Rows.put_run.Goals as goal
use Rattle.choose.proofs.dues.Rows.put_run.Goals.{then-before-after, else-before-after}

-- The edge at place p, and how many places there are.
edge : {net : Netlist} {lab along : List ℕ} {p : ℕ} → Labelled net lab → EachEdge along (length along) × (length along ≡ net.edges) → p < length along → (at along p < net.edges) × (p < 1024)
edge s a h = (omega (arith, a.0.edges_only _ h, a.1), omega (arith, a.1, low_edges _ _ s))

pub append_dues-requires-clause-room : goal.append_dues-requires-clause-room
append_dues-requires-clause-room c =
    let few = (edge c.args.of.now.task.now.of.labelled c.requires.along c.loop-e-test.true).1 in
    let run = c.args.run in
    omega (arith, run_room _ _ _ _ _ _ _ _ _ few run.rises c.loop-e.invariant.1)

pub append_dues-requires-clause-by_index : goal.append_dues-requires-clause-by_index
append_dues-requires-clause-by_index c =
    let s = c.args.of.now.task.now.of.labelled in
    let (node, lag) = c.of.ensures.ends in
    rw (node, lag) (λ t. c.requires.celled.inside _ t (from_node _ _ s _ (edge s c.requires.along c.loop-e-test.true).0))

pub overflow_cast-after : goal.overflow_cast-after
overflow_cast-after c =
    let few = (edge c.args.of.now.task.now.of.labelled c.requires.along c.loop-e-test.true).1 in
    let run = c.args.run in
    omega (arith, run_room _ _ _ _ _ _ _ _ _ few run.rises c.loop-e.invariant.1, few_pushed _ _ _ _ _ _ run.rises c.append_dues.ensures.rows)

pub push-requires : goal.push-requires
push-requires c =
    let few : length c.loop-e.self.begin < 5121 = omega (arith, low_edges _ _ c.args.of.now.task.now.of.labelled) in
    (omega arith, few)

pub loop-e-preserved : goal.loop-e-preserved
loop-e-preserved c =
    let a = c.args in
    let l = c.loop-e in
    let d = c.append_dues in
    let of = a.of.now.task.now.of in
    let lag = lag_at of.lab.now in
    let e = c.of.result in
    let ends = c.of.ensures.ends in
    let values = c.of.ensures.values in
    let edge_in = (edge of.labelled c.requires.along c.loop-e-test.true).0 in
    let place : l.e-index < of.net.now.edges = omega (arith, c.requires.along.1) in
    let pushed = subst (λ s. Pushed (due_at a.of.now.id e.node e.lag e.count s) l.self.due d.new.due (e.count + a.run.low - e.lag) (min e.count (e.count + a.run.high - e.lag))) values.1 d.ensures in
    let (none, more) = dues_more of.net.now lag a.of.now.id a.along.now a.run.low a.run.high l.e-index e.node e.count e.lag _ _ l.self.due d.new.due l.self.begin l.invariant.1
    place edge_in (sym ends.0) (sym values.0) (ap lag ends.0 ∙ sym ends.1) a.run.rises a.run.within refl refl pushed in
    elim c.if-before-after.branch [
      | then-before-after w ↦ rw (w.self-is, w.push.ensures, c.len-after.ensures) (
        let longer = length-append l.self.begin (length d.new.due ∷ []) in
            omega (arith, longer, l.invariant.1.some),
        more (rw (c.len-before.ensures, c.len-after.ensures) at w.if-before-after.true),
      )
      | else-before-after w ↦ rw w.self-is (omega arith, none (rw (c.len-before.ensures, c.len-after.ensures) at w.if-before-after.false))
    ]

pub returns-clause-dues_to_2 : goal.returns-clause-dues_to_2
returns-clause-dues_to_2 c =
    let l = c.loop-e in
    run_ends _ _ _ _ _ _ _ _ _ (let all : l.e-index ≡ c.args.of.now.task.now.of.net.now.edges = omega (arith, c.requires.along.1) in all)
    (low_edges _ _ c.args.of.now.task.now.of.labelled) c.args.run.rises l.invariant.1

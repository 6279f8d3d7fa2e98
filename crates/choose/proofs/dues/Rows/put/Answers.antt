-- `choose::dues::Rows::put` meets its contract: the dues of all clocks below `low` are put.
use Rattle.std.proofs.Common.{◌≡◌, ◌<◌, ◌≤◌, ℕ, List, length, take, arith, rules, ◌∙◌}
use Rattle.std.proofs.lemmas.List.{length-take-le, get_or-take}
use Rattle.graph.specs.Columns.{at}
use Rattle.graph.specs.inner.Sort.{EachEdge}
use Rattle.moves.proofs.Labels.{from_node}
use Rattle.choose.specs.inner.Numbers.{lag_at}
use Rattle.choose.proofs.Runs.{dues_all}
use Rattle.choose.proofs.dues.Rows.put.Goals as goal

-- A list of each edge, cut to so many places.
module _ {edges n : ℕ} (along : List ℕ) (q : n ≡ edges) (rows : edges ≤ length along) (each : EachEdge along n) where
  cut_length : length (take edges along) ≡ edges
  cut_length = length-take-le edges along rows

  cut : EachEdge (take edges along) (length (take edges along))
  cut = record {
    edges_only = λ p h.
        let l : p < edges = omega (arith, cut_length) in
        omega (arith, get_or-take edges along p 0 l, each.edges_only p (omega arith), cut_length);
    every_edge = λ e h.
        let s = each.every_edge e (omega (arith, cut_length)) in
        let l : s.place < edges = omega (arith, s.within) in
        record { place = s.place; within = omega (arith, cut_length); holds = get_or-take edges along s.place 0 l ∙ s.holds };
  }

pub put_run-requires-clause-along : goal.put_run-requires-clause-along
put_run-requires-clause-along c =
    let w = c.wires-wires in
    let n = length-take-le w.result.edges w.result.from.now w.result.laid.from_rows in
    (cut c.edges_along-along.result n (search rules) c.edges_along-along.ensures, cut_length c.edges_along-along.result n (search rules) c.edges_along-along.ensures ∙ w.ensures.edges)

pub returns-clause-dues : goal.returns-clause-dues
returns-clause-dues c =
    let a = c.args in
    let l = c.loop-low in
    let s = a.of.now.task.now.of.labelled in
    let net = a.of.now.task.now.of.net.now in
    let w = c.wires-wires in
    let n = length-take-le w.result.edges w.result.from.now w.result.laid.from_rows in
    let all = cut_length c.edges_along-along.result n (search rules) c.edges_along-along.ensures ∙ w.ensures.edges in
    dues_all net (lag_at a.of.now.task.now.of.lab.now) a.of.now.id _ l.self.due l.self.begin l.low l.invariant.2
    (rw all at (cut c.edges_along-along.result n (search rules) c.edges_along-along.ensures))
    (λ e h. omega (arith, a.of.now.task.now.known.low.low (at net.from e) (from_node _ _ s e h)))

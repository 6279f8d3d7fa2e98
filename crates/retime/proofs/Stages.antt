-- From what a stage of the call found to what it promises.
--   by_refused, new_rows, by_done  `retime_by`: 9, 10, 11; the new netlist has as many rows; both are put, as there is room
--   labelled                       `retime_net`: the labels are those of a legal retiming
--   Promised, promised, stop, goes_on    `retime`
use Prim.Native.Nat.{ℕ, ◌+◌, ◌≤◌, ◌<◌}
use native.Mathlib.Omega.{arith}
use mathlib.Core.Path.{◌≡◌, refl, ap, ◌∙◌}
use mathlib.Core.List.{List, [], ◌∷◌, ◌++◌}
use lib.IntN.{ℤ}
use lib.ListN.{length, drop}
use lib.Seq.{sets, sets-eq}
use Rattle.graph.specs.Columns.{at}
use Rattle.netlist.specs.declared.Netlist.{Netlist}
use Rattle.netlist.specs.Answer.{Said, value, refused, holds}
use Rattle.netlist.specs.Read.{Reads}
use Rattle.netlist.specs.Write.{joined, text_of, text_in}
use Rattle.netlist.proofs.Run.{fit_rows}
use Rattle.netlist.proofs.Written.{text_put}
use Rattle.lags.proofs.Laws.{read_sure}
use Rattle.moves.specs.inner.Labels.{lags_of, Labelled}
use Rattle.moves.specs.Moved.{moved_net}
use Rattle.retime.specs.declared.Retimed.{Retimed}
use Rattle.retime.specs.Retime.{LeastLags, lag_table, MovedBy, Room, Retimes}
use Rattle.retime.specs.Demand.{Demand3}
use Rattle.retime.specs.inner.Leaves.{FromShort, Leaves, Moves}
use Rattle.retime.proofs.Call.{unread, of_left}
use Rattle.retime.proofs.theorems.Moved.{written_length}
use Rattle.retime.proofs.theorems.Demand.{demand_follows}

module _ (net : Netlist) (lab : List ℕ) (out : List ℕ) (lags : List ℤ) where
  pub by_refused : {q k p : ℕ} → MovedBy net (lags_of lab) 0 (refused q k p) → Leaves (MovedBy net) net out lags (refused q k p) out lags
  by_refused row = record { lag = lags_of lab; choice = 0; answer = row; buffer = refl; table = refl }

  module _ (new : Retimed) (m : Moves net (lags_of lab) new) where
    -- The moved netlist has the original's nodes and edges.
    pub new_rows : (new.net.nodes ≡ net.nodes) × (new.net.edges ≡ net.edges)
    unfolding moved_net
    new_rows = (ap (λ n. n.nodes) m.moved, ap (λ n. n.edges) m.moved)

    put_room : Reads (text_of net) (value 0) net → Room out lags net → (new.net.nodes ≤ 512) × (new.net.edges ≤ 1024) × (length (text_of new.net) ≤ length out)
    put_room h room =
        let rows = fit_rows net (read_sure (text_of net) net h).fit in (
          omega (arith, rows.0, new_rows.0),
          omega (arith, rows.1, new_rows.1),
          omega (arith, ap (λ n. length (text_of n)) m.moved, written_length net (lags_of lab) m.choice, room.text),
        )

    pub by_done : Reads (text_of net) (value 0) net → Room out lags net → (out' : List ℕ) (lags' : List ℤ) → out' ≡ sets out 0 (text_in new.net (length out))
        → lags' ≡ holds (value 0) (lag_table new.net (lags_of lab)) lags → Leaves (MovedBy net) net out lags (value new.chosen) out' lags'
    by_done h room out' lags' o p =
        let (nodes, edges, fits) = put_room h room in
        let long : 0 + length (text_of new.net) ≡ length (text_of new.net) = omega arith in
        record {
          lag = lags_of lab;
          choice = m.choice;
          answer = m.answer;
          buffer = (text_put new.net out out' _ o refl nodes edges fits).0 ∙ sets-eq (text_of new.net) out 0 (omega arith) ∙ ap (λ n. text_of new.net ++ drop n out) long
              ∙ ap (λ n. holds (value 0) (text_of n) out) m.moved;
          table = p ∙ ap (λ n. holds (value 0) (joined (λ v. lags_of lab v ∷ []) n) lags) new_rows.0;
        }

pub labelled : (t : List ℕ) (net : Netlist) (lab : List ℕ) → Reads t (value 0) net → length lab ≡ 512 → ((v : ℕ) → v < net.nodes → at lab v < 32768) → LeastLags net (lags_of lab) → Labelled net lab
labelled t net lab h rows small l =
    let fit = (read_sure t net h).fit in
    record { fit = fit; rows = omega (arith, (fit_rows net fit).0, rows); small = small; legal = l.feasible.legal }

module _ (t out : List ℕ) (lags : List ℤ) where
  abbrev pub Promised : Said → List ℕ → List ℤ → Type 0
  Promised s out' lags' = Retimes t out lags s out' lags' × Demand3 t out lags s out' lags'

  promised : {s : Said} {out' : List ℕ} {lags' : List ℤ} → Retimes t out lags s out' lags' → Promised s out' lags'
  promised {s} {out'} {lags'} o = (o, demand_follows t out lags s out' lags' o)

  module _ (net : Netlist) where
    pub stop : {q k p : ℕ} → Reads t (refused q k p) net → Promised (refused q k p) out lags
    stop r = promised (unread r)

    pub goes_on : Reads t (value 0) net → (s : Said) (out' : List ℕ) (lags' : List ℤ) → Leaves (FromShort out lags net) net out lags s out' lags'
        → Promised s out' lags'
    goes_on r s out' lags' x = promised (of_left net r x)

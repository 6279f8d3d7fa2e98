-- Every call has an outcome, and one only.
--   one_outcome, some_outcome
use Prim.Native.Nat.{ℕ, ◌<◌}
use native.Mathlib.Omega.{arith}
use native.Mathlib.Decide.{dec_lt}
use mathlib.Core.Path.{◌≡◌, refl, sym, ap, subst, ◌∙◌}
use mathlib.Core.Logic.{inl, inr, ⊎_elim}
use mathlib.Core.List.{List, ◌++◌}
use lib.IntN.{ℤ}
use lib.ListN.{length, drop}
use Rattle.theory.specs.Gate.{gate}
use Rattle.theory.specs.inner.Demand.{Verdict, no_retiming, too_wide, too_many, no_start, answered}
use Rattle.theory.proofs.least.Exists.{least_unique}
use Rattle.theory.proofs.moves.Best.{best_unique}
use Rattle.theory.proofs.retimer.Demand.{demand}
use Rattle.netlist.specs.declared.Netlist.{Netlist}
use Rattle.netlist.specs.Answer.{Said, value, refused, holds}
use Rattle.netlist.specs.Net.{plain, graph_of, regs_of, delay_of}
use Rattle.netlist.specs.Circuit.{SoundIn}
use Rattle.netlist.specs.Read.{Reads}
use Rattle.netlist.specs.Write.{text_of}
use Rattle.netlist.proofs.theorems.Sound.{read_is_sound}
use Rattle.moves.specs.Moved.{moved_net}
use Rattle.moves.proofs.Lags.{best_alike}
use Rattle.moves.proofs.Rows.{rows_same}
use Rattle.retime.specs.Retime.{lag_table, MovedBy, Room, Retimes}
use Rattle.retime.specs.Theorems.{SomeOutcome, OneOutcome}
use Rattle.retime.specs.inner.Leaves.{FromShort}
use Rattle.retime.proofs.Order.{wide, many, startless, moved, told, one_said}
use Rattle.retime.proofs.Call.{reading, unread, left_of, of_left, short, none, from_9, said}
use Rattle.retime.proofs.theorems.Moved.{moved_alike}
use Rattle.retime.proofs.theorems.Refusals.{unread_fact, nothing_touched}

-- ── One only ────────────────────────────────────────────────────────────────────────────────

module _ (out : List ℕ) (lags : List ℤ) (net : Netlist) (ok : SoundIn net) (r q : ℕ → ℤ) (c d : ℕ) where
  -- The least lags are one at each node, so the smallest number is one, and the netlist moved by them.
  one_left : (s : Said) → FromShort out lags net r c s → FromShort out lags net q d s
      → (holds s (text_of (moved_net net r c)) out ≡ holds s (text_of (moved_net net q d)) out) × (holds s (lag_table net r) lags ≡ holds s (lag_table net q) lags)
  one_left (refused _ _ _) a b = (refl, refl)
  one_left (value k) a b =
      let f = told out lags net r c a in
      let g = told out lags net q d b in
      let same = least_unique r q f.least g.least in
      let number : c ≡ d = best_unique gate (graph_of net) (regs_of net) q c d (best_alike gate (graph_of net) (regs_of net) ok r q f.least.feasible.legal same c f.best) g.best in (
        ap (λ n. text_of n ++ drop (length (text_of n)) out) (moved_alike net r q c ok.wired same ∙ ap (moved_net net q) number),
        ap (λ l. l ++ drop (length l) lags) (rows_same r q net.nodes same),
      )

-- A text that does not read has one refusal, and nothing is touched. Else one thing is said, and that leaves one outcome.
pub one_outcome : OneOutcome
one_outcome t out lags s s'' out' out'' lags' lags'' a b =
    ⊎_elim
    (λ (q, k, p, net, h).
    let x = unread_fact t out lags s out' lags' q k p net h a in
    let y = unread_fact t out lags s'' out'' lags'' q k p net h b in
    let u = nothing_touched t out lags s out' lags' q k p a x in
    let v = nothing_touched t out lags s'' out'' lags'' q k p b y in
    (x ∙ sym y, u.0 ∙ sym v.0, u.1 ∙ sym v.1))
    (λ (net, h).
    let x = left_of net h a in
    let y = left_of net h b in
    let ok = read_is_sound t net h in
    let e = one_said out lags net x.lag x.choice ok y.lag y.choice x.answer y.answer in
    let l = one_left out lags net ok x.lag y.lag x.choice y.choice s x.answer (subst (FromShort out lags net y.lag y.choice) (sym e) y.answer) in (
      e,
      x.buffer ∙ l.0 ∙ ap (λ z. holds z (text_of (moved_net net y.lag y.choice)) out) e ∙ sym y.buffer,
      x.table ∙ l.1 ∙ ap (λ z. holds z (lag_table net y.lag) lags) e ∙ sym y.table,
    ))
    (reading t)

-- ── Some ────────────────────────────────────────────────────────────────────────────────────

module _ (t out : List ℕ) (lags : List ℤ) where
  abbrev Some : Type 0
  Some = (s : Said) × (out' : List ℕ) × (lags' : List ℤ) × Retimes t out lags s out' lags'

  -- There is room: the theory's verdict.
  module _ (net : Netlist) (h : Reads t (value 0) net) (room : Room out lags net) where
    says : (r : ℕ → ℤ) (c : ℕ) {s : Said} → MovedBy net r c s → Some
    says r c row = (_, _, _, of_left net h (from_9 net room (said out lags net r c row)))

    with_room : Verdict gate (graph_of net) (regs_of net) (delay_of net) net.period → Some
    with_room (no_retiming n) = (_, _, _, of_left net h (none net room n))
    with_room (too_wide r l e w) = says r 0 (wide net r 0 l e w)
    with_room (too_many r l n m) = says r 0 (many net r 0 l n m)
    with_room (no_start r l n m x) = says r 0 (startless net r 0 l n m x)
    with_room (answered r c x n m) = says r c (moved net r c x.least n m x.best)

  reads_some : (net : Netlist) → Reads t (value 0) net → Some
  reads_some net h = go (dec_lt (length out) (length (text_of (plain net)))) (dec_lt (length lags) net.nodes)
    where
      go : Dec (length out < length (text_of (plain net))) → Dec (length lags < net.nodes) → Some
      go (yes a) b = (_, _, _, of_left net h (short out lags net (inl a)))
      go (no a) (yes b) = (_, _, _, of_left net h (short out lags net (inr b)))
      go (no a) (no b) =
          with_room net h (record { text = omega arith; table = omega arith }) (demand gate (graph_of net) (regs_of net) (read_is_sound t net h) (delay_of net) net.period).verdict

-- The text is read (`some_reading`); what reads is sound, and a sound netlist has one of five ends (the theory's `demand`).
pub some_outcome : SomeOutcome
some_outcome t out lags = ⊎_elim (λ (q, k, p, net, h). (refused q k p, out, lags, unread h)) (λ (net, h). reads_some t out lags net h) (reading t)

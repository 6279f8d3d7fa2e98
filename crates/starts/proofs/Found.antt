-- The new start values of an edge: the chosen ones, and those that the ring shows.
--   start_at, starts_at new start value t of an edge; all of them, as a word
--   chosen_found        the chosen ones are its first new start values
--   fillable            what filling up the word asks
--   shown_found         the others stand in the ring
--   start_found         so the word filled up has all of them
--   shown_rows          what an edge shows
--   moved_is            the netlist with the new counts and start values is the moved one
use Prim.Native.Nat.{ℕ, ◌+◌, ◌*◌, ◌-◌, ◌^◌, ◌≤◌, ◌<◌, min}
use native.Mathlib.Omega.{arith}
use mathlib.Core.Path.{◌≡◌, sym, subst, ap, ap₂, ◌∙◌}
use mathlib.Core.List.{List}
use lib.ListN.{length, take}
use Rattle.std.proofs.lemmas.List.{length-take-le, get_or-take}
use Rattle.theory.specs.Gate.{gate}
use Rattle.theory.specs.Move.{move}
use Rattle.theory.proofs.numbers.Sums.{sum_same}
use Rattle.graph.specs.Columns.{at}
use Rattle.netlist.specs.declared.Netlist.{Netlist}
use Rattle.netlist.specs.Net.{with_columns, graph_of, regs_of}
use Rattle.netlist.specs.inner.Words.{retimed_at}
use Rattle.netlist.proofs.Lowest.{count_low}
use Rattle.lags.proofs.Laws.{lag_label, lag_up}
use Rattle.moves.specs.inner.Labels.{lags_of, chosen_at, Labelled}
use Rattle.moves.specs.inner.Moving.{Moving}
use Rattle.moves.specs.inner.Chosen.{chosen_word}
use Rattle.moves.specs.Moved.{word_of, moved_net}
use Rattle.moves.specs.inner.Columns.{Filled, none}
use Rattle.moves.proofs.Labels.{from_node, low_edges, low_nodes, new_fits, new_is}
use Rattle.moves.proofs.Moved.{with_is}
use Rattle.starts.specs.declared.words.Filling.{Filling}
use Rattle.starts.specs.inner.Ring.{Followed, EdgeRows}
use Rattle.starts.specs.inner.Starts.{shown_slot}
use Rattle.starts.proofs.Quiet.{new_chosen, new_seen}
use Rattle.starts.proofs.Held.{shows}

-- Of the netlist moved by the labels' lags and the choice c.
abbrev pub start_at : Netlist → List ℕ → ℕ → ℕ → ℕ → ℕ
start_at net lab c e t = (retimed_at net (lags_of lab) c).start e t

abbrev pub starts_at : Netlist → List ℕ → List ℕ → ℕ → ℕ → ℕ
starts_at net lab counts c e = word_of (start_at net lab c e) (at counts e)

module _ (net : Netlist) (lab counts : List ℕ) (m : Moving net lab counts) (e : ℕ) (h : e < net.edges) (chosen : ℕ) (is : chosen ≡ chosen_at net lab e) where
  many : chosen ≡ min (at counts e) (at lab (at net.to e) - 16384)
  many = is ∙ ap₂ min (sym (m.counted e h)) (lag_up (at lab (at net.to e)))

  -- Those at the clocks below the lag.
  pub chosen_found : (c word : ℕ) → word ≡ chosen_word net (lags_of lab) c e → word ≡ word_of (start_at net lab c e) chosen
  chosen_found c word q =
      q
      ∙ sum_same _ _ (chosen_at net lab e) (λ t l. ap (λ x. x * 2 ^ t) (sym (new_chosen gate (graph_of net) (regs_of net) (lags_of lab) c e t (omega (arith, l)))))
      ∙ ap (word_of (start_at net lab c e)) (sym is)

  -- What filling the word up asks.
  pub fillable : (word : ℕ) → word < 2 ^ chosen_at net lab e
      → (word < 2 ^ chosen) × (chosen ≤ at counts e) × (at counts e ≤ 32) × (chosen < at counts e → at lab (at net.to e) ≤ chosen + 16384)
  fillable word s = (subst (λ n. word < 2 ^ n) (sym is) s, omega (arith, many), m.narrow e h, λ y. omega (arith, many))

  -- New start value t is what the edge shows in clock t − r(v): a start value, or its source's value at one of the last 32 clocks at which that is asked for.
  pub shown_found : (c : ℕ) (ring : List ℕ) → Followed net lab ring → (t : ℕ) → chosen ≤ t → t < at counts e
      → at ring (shown_slot (at net.from e) (at net.count e) (at net.start e) (at lab (at net.to e)) t) ≡ start_at net lab c e t
  shown_found c ring f t a b =
      shows net ring f.zeroth f.one s e (λ i q. f.last u i (from_node net lab m.labelled e h) (omega (arith, late, moves)) (omega (arith, late, moves, m.narrow e h)))
      ∙ sym (new_seen gate (graph_of net) (regs_of net) (lags_of lab) c e t s (omega (arith, late, lag_label v)))
    where
      u : ℕ
      u = at net.from e

      v : ℕ
      v = at lab (at net.to e)

      s : ℕ
      s = t + 16384 - v

      late : v ≤ t + 16384
      late = omega (arith, many)

      moves : at counts e + at lab u ≡ at net.count e + v
      moves =
          let l = new_fits net lab m.labelled e h in
          omega (arith, m.counted e h, new_is net lab m.labelled e h (at net.count e + v - at lab u) (omega arith))

  -- The word that is filled up has the edge's new start values.
  pub start_found : (c : ℕ) (ring : List ℕ) → Followed net lab ring → (words : List ℕ) → at words e ≡ chosen_word net (lags_of lab) c e → (to : Filling) (x : ℕ)
      → (to.edge.from ≡ at net.from e) × (to.edge.registers ≡ at net.count e) × (to.edge.start ≡ at net.start e)
      → (to.word ≡ at words e) × (to.chosen ≡ chosen)
      → (to.count ≡ at counts e) × (to.label ≡ at lab (at net.to e))
      → ((f : ℕ → ℕ) → to.word ≡ word_of f to.chosen
      → ((t : ℕ) → to.chosen ≤ t → t < to.count → at ring (shown_slot to.edge.from to.edge.registers to.edge.start to.label t) ≡ f t) → x ≡ word_of f to.count)
      → x ≡ starts_at net lab counts c e
  start_found c ring f words w to x edge (word, many) (count, label) filled =
      filled (start_at net lab c e) (word ∙ chosen_found c (at words e) w ∙ ap (word_of (start_at net lab c e)) (sym many))
      (λ t a b. rw (edge.0, edge.1, edge.2, label) (shown_found c ring f t (omega arith) (omega arith)))
      ∙ ap (word_of (start_at net lab c e)) count

-- An edge shows a node behind 32 registers at most.
pub shown_rows : (net : Netlist) (lab : List ℕ) → Labelled net lab → (e : ℕ) → e < net.edges → EdgeRows net e
shown_rows net lab s e h = record {
  low = omega (arith, low_edges net lab s);
  source = omega (arith, from_node net lab s e h, low_nodes net lab s);
  width = count_low net s.fit e h;
}

-- ── The moved netlist ───────────────────────────────────────────────────────────────────────

-- The counts as bytes, made of the counts of the edges alone.
pub moved_is : (net : Netlist) (lab counts : List ℕ) (c : ℕ) → Moving net lab counts → (bytes words : List ℕ) → length bytes ≡ 1024 → length words ≡ 1024
    → (let own = take net.edges counts in Filled (at own) none (length own) bytes) → Filled (starts_at net lab counts c) none net.edges words
    → with_columns net bytes words ≡ moved_net net (lags_of lab) c
unfolding moved_net move
moved_is net lab counts c m bytes words p q a b =
    let size = length-take-le net.edges counts m.count_rows in
    sym (with_is net (retimed_at net (lags_of lab) c) bytes words (low_edges net lab m.labelled) p q
    (record { rows = λ e h. a.rows e (omega arith) ∙ get_or-take net.edges counts e 0 h ∙ m.counted e h; past = λ e h. a.past e (omega arith) })
    (record { rows = λ e h. b.rows e h ∙ ap (word_of (start_at net lab c e)) (m.counted e h); past = b.past }))

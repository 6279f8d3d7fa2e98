-- The words of the number that the search takes.
--   rises               where the values of an edge begin and end
--   chosen              the words of the best number are the chosen start values of each edge
use Prim.Native.Nat.{ℕ, ◌+◌, ◌-◌, ◌≤◌, ◌<◌}
use native.Mathlib.Omega.{arith}
use mathlib.Core.Path.{◌≡◌, sym, ap, ap₂, ◌∙◌}
use Rattle.std.proofs.Common.{Some}
use mathlib.Core.List.{List}
use lib.ListN.{length, take}
use lib.Seq.{get_or-take}
use Rattle.std.proofs.lemmas.List.{length-take-le}
use Rattle.theory.specs.Move.{sum, digit}
use Rattle.theory.proofs.numbers.Sums.{sum_more, sum_grows}
use Rattle.graph.specs.Columns.{at}
use Rattle.netlist.specs.declared.Netlist.{Netlist}
use Rattle.netlist.specs.Circuit.{choice_at}
use Rattle.moves.specs.Moved.{word_of}
use Rattle.moves.specs.inner.Labels.{lags_of, chosen_at}
use Rattle.moves.specs.inner.Moving.{Choosing}
use Rattle.moves.specs.inner.Chosen.{EdgeWords}
use Rattle.choose.specs.inner.Wires.{Chooses}
use Rattle.choose.specs.inner.Chosen.{Rises, RunWords, Chosen}
use Rattle.choose.proofs.Right.{number}

module _ {net : Netlist} {lab counts base : List ℕ} {k : ℕ} (ch : Choosing net lab counts base k) where
  -- Where the values of each edge begin, and those of the last one end.
  cut : List ℕ
  cut = take (net.edges + 1) base

  cut_length : length cut ≡ net.edges + 1
  unfolding cut
  cut_length = length-take-le (net.edges + 1) base (omega (arith, ch.base_rows))

  begins : (e : ℕ) → e ≤ net.edges → at cut e ≡ sum (chosen_at net lab) e
  unfolding cut
  begins e h = get_or-take (net.edges + 1) base e 0 (omega arith) ∙ ch.based e h

  step : (e : ℕ) → e < net.edges → at cut (e + 1) ≡ at cut e + chosen_at net lab e
  step e h = begins (e + 1) (omega arith) ∙ sum_more (chosen_at net lab) e ∙ ap (λ b. b + chosen_at net lab e) (sym (begins e (omega arith)))

  pub rises : Rises (take (net.edges + 1) base) k
  unfolding cut
  rises e l =
      let h : e < net.edges = omega (arith, cut_length) in
      (omega (arith, step e h), omega (arith, begins (e + 1) (omega arith), number ch, sum_grows (chosen_at net lab) (e + 1) net.edges (omega arith)))

  run_words : (c : ℕ) (words : List ℕ) → RunWords c k cut words → EdgeWords net (lags_of lab) c words
  run_words c words w e h =
      w e (omega (arith, cut_length))
      ∙ ap₂ (λ n b. word_of (λ t. digit n c (b + t)) (at cut (e + 1) - at cut e)) (number ch) (begins e (omega arith))
      ∙ ap (word_of (choice_at net (lags_of lab) c e)) (let z : at cut (e + 1) - at cut e ≡ chosen_at net lab e = omega (arith, step e h) in z)

  pub chosen : (c : ℕ) (words : List ℕ) → Chooses net (lags_of lab) (Some c) → RunWords c k (take (net.edges + 1) base) words → Chosen net (lags_of lab) (Some words)
  unfolding cut
  chosen c words b w = record { number = c; best = b; its_words = run_words c words w }

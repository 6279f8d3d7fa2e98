-- Lags as labels: label = 16,384 + lag, so that all are natural numbers.
--   lags_of             the lags of a list of labels
--   Labelled            labels of a legal retiming
--   count_at, Counts    the new counts
--   WideEdge, Wide      the lowest edge with a count above 32; that edge, or that there is none
--   chosen_at, Bases    how many values are chosen on an edge, and on all edges before it
use Rattle.std.specs.Prelude.{◌≡◌, List, ℕ, ◌<◌, ◌≤◌, ℤ, Option, Some, None, length}
use Rattle.theory.specs.Move.{sum}
use Rattle.graph.specs.Columns.{at}
use Rattle.netlist.specs.declared.Netlist.{Netlist}
use Rattle.netlist.specs.inner.Words.{LegalAt, chosen_on_at, new_count_at}
use Rattle.netlist.specs.Theorems.{Fit}
use Rattle.lags.specs.inner.Lags.{lag_of}

abbrev pub lags_of : List ℕ → ℕ → ℤ
lags_of lab v = lag_of (at lab v)

pub record Labelled (net : Netlist) (lab : List ℕ) : Type 0 where
  pub fit : Fit net
  pub rows : net.nodes ≤ length lab
  pub small : (v : ℕ) → v < net.nodes → at lab v < 32768
  pub legal : LegalAt net (lags_of lab)

abbrev pub count_at : Netlist → List ℕ → ℕ → ℕ
count_at net lab e = new_count_at net (lags_of lab) e

abbrev pub Counts : Netlist → List ℕ → List ℕ → Type 0
Counts net lab counts = (e : ℕ) → e < net.edges → at counts e ≡ count_at net lab e

pub record WideEdge (counts : List ℕ) (edges e : ℕ) : Type 0 where
  pub inside : e < edges
  pub low : (i : ℕ) → i < e → at counts i ≤ 32
  pub wide : 32 < at counts e

abbrev pub Wide : List ℕ → ℕ → Option ℕ → Type 0
Wide counts edges (Some e) = WideEdge counts edges e
Wide counts edges None = (i : ℕ) → i < edges → at counts i ≤ 32

abbrev pub chosen_at : Netlist → List ℕ → ℕ → ℕ
chosen_at net lab e = chosen_on_at net (lags_of lab) e

abbrev pub Bases : Netlist → List ℕ → List ℕ → Type 0
Bases net lab base = (e : ℕ) → e ≤ net.edges → at base e ≡ sum (chosen_at net lab) e

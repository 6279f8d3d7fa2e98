-- The cells, numbered clock by clock and within a clock in evaluation order. The cell of node v at clock t has the code 32 v + t.
--   lag_at              a node's lag where it is positive, else 0
--   LagsBelow           so many clocks, 24 at most, and no lag of the first nodes is above them
--   Arranged            an order of the nodes, as many as it has places, each once
--   EarlierCell         node v at clock s comes before place p of clock t
--   CellNumbered, CellsNumbered  all cells before place p of clock t are numbered, and no others: `id` has a code's number, `code` a number's code
use Rattle.std.specs.Prelude.{◌≡◌, ◌⊎◌, List, ℕ, ◌+◌, ◌*◌, ◌<◌, ◌≤◌, length}
use Rattle.theory.specs.Lag.{up}
use Rattle.graph.specs.Columns.{at}
use Rattle.graph.specs.inner.Sort.{Stands}
use Rattle.moves.specs.inner.Labels.{lags_of}

abbrev pub lag_at : List ℕ → ℕ → ℕ
lag_at lab v = up (lags_of lab v)

pub record LagsBelow (lab : List ℕ) (nodes clocks : ℕ) : Type 0 where
  pub few : clocks ≤ 24
  pub low : (v : ℕ) → v < nodes → lag_at lab v ≤ clocks

pub record Arranged (order : List ℕ) : Type 0 where
  pub few : length order ≤ 512
  pub nodes_only : (p : ℕ) → p < length order → at order p < length order
  pub once : (p q : ℕ) → p < q → q < length order → ¬ (at order p ≡ at order q)

abbrev pub EarlierCell : List ℕ → ℕ → ℕ → ℕ → ℕ → Type 0
EarlierCell order t p v s = (s < t) ⊎ ((s ≡ t) × Stands order p v)

pub record CellNumbered (lag : ℕ → ℕ) (order : List ℕ) (id code : List ℕ) (t p i : ℕ) : Type 0 where
  pub clock : ℕ
  pub place : ℕ
  pub within : place < length order
  pub below : clock < lag (at order place)
  pub coded : at code i ≡ at order place * 32 + clock
  pub number : at id (at order place * 32 + clock) ≡ i
  pub done : (clock < t) ⊎ ((clock ≡ t) × (place < p))
  pub earlier : (v s : ℕ) → v < length order → s < lag v → EarlierCell order clock place v s → at id (v * 32 + s) < i

pub record CellsNumbered (lag : ℕ → ℕ) (order : List ℕ) (t p : ℕ) (id code : List ℕ) : Type 0 where
  pub few : length code ≤ t * 512 + p
  pub id_rows : length id ≡ 16384
  pub inside : (v s : ℕ) → v < length order → s < lag v → EarlierCell order t p v s → at id (v * 32 + s) < length code
  pub back : (v s : ℕ) → v < length order → s < lag v → EarlierCell order t p v s → at code (at id (v * 32 + s)) ≡ v * 32 + s
  pub each : (i : ℕ) → i < length code → CellNumbered lag order id code t p i

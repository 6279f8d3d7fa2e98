-- The parts of one clock, on columns: node v's signal stands at v, what edge e shows from its register at 512 + e. All signals are bits.
--   Within list size    the list holds numbers below size
--   written place f n l the list l, with f i stored at place i for each i below n in turn
--   with_inputs         the signals, with a vector's bytes at the first n nodes listed
--   with_registers      so with what the first n edges listed show from their registers
--   with_outputs        a buffer, with the signals of the first n nodes listed from a place on
--   shifted_at, with_shifts  an edge's word moved on; the words, with those of the first n edges listed moved on
--   EdgeMovable, Movable    what moving on one word asks of the columns; so of the listed edges, none of which is listed twice
use Rattle.std.specs.Prelude.{◌≡◌, List, ℕ, zero, suc, ◌+◌, ◌%◌, ◌^◌, ◌<◌, ◌≤◌, length, set}
use Rattle.graph.specs.Columns.{at}
use Rattle.simulate.specs.Clock.{shifted}

abbrev pub Within : List ℕ → ℕ → Type 0
Within list size = (i : ℕ) → i < length list → at list i < size

unfoldable pub written : (ℕ → ℕ) → (ℕ → ℕ) → ℕ → List ℕ → List ℕ
written place f zero l = l
written place f (suc n) l = set (written place f n l) (place n) (f n)

-- ── The pins and the registers ──────────────────────────────────────────────────────────────

abbrev pub with_inputs : List ℕ → ℕ → List ℕ → List ℕ → List ℕ
with_inputs inputs n vector sig = written (at inputs) (at vector) n sig

abbrev pub with_registers : List ℕ → ℕ → List ℕ → List ℕ → List ℕ
with_registers registers n words sig = written (λ i. 512 + at registers i) (λ i. at words (at registers i) % 2) n sig

abbrev pub with_outputs : List ℕ → ℕ → List ℕ → ℕ → List ℕ → List ℕ
with_outputs outputs n sig at0 out = written (λ i. at0 + i) (λ i. at sig (at outputs i)) n out

-- ── The words ───────────────────────────────────────────────────────────────────────────────

abbrev pub shifted_at : List ℕ → List ℕ → List ℕ → List ℕ → ℕ → ℕ
shifted_at from count sig words e = shifted (at count e) (at words e) (at sig (at from e))

abbrev pub with_shifts : List ℕ → ℕ → List ℕ → List ℕ → List ℕ → List ℕ → List ℕ
with_shifts registers n from count sig words = written (at registers) (λ i. shifted_at from count sig words (at registers i)) n words

pub record EdgeMovable (from count words : List ℕ) (size e : ℕ) : Type 0 where
  pub in_columns : e < 1024
  pub in_words : e < length words
  pub source : at from e < size
  pub some : 0 < at count e
  pub few : at count e ≤ 32
  pub fits : at words e < 2 ^ at count e

pub record Movable (registers from count words : List ℕ) (size : ℕ) : Type 0 where
  pub apart : (i j : ℕ) → i < length registers → j < length registers → at registers i ≡ at registers j → i ≡ j
  pub each : (i : ℕ) → i < length registers → EdgeMovable from count words size (at registers i)

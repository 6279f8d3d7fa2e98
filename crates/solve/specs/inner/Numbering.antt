-- The numbers as the code holds them.
--   numbered_layers     what is numbered
--   Further             the same cells are numbered, and the numbers that were given before have stayed
use Rattle.std.specs.Prelude.{◌≡◌, ℕ, ◌<◌, ◌≤◌, length}
use Rattle.graph.specs.Columns.{at}
use Rattle.solve.specs.inner.Numbers.{Layers, layers_of}
use Rattle.solve.specs.declared.numbers.Numbers.{Numbers}

abbrev pub numbered_layers : {N : ℕ} → Numbers N → Layers
numbered_layers s = layers_of (length s.program.kind.now) s.program.first.now s.program.operand.now s.span.now

pub record Further {N : ℕ} (old new : Numbers N) : Type 0 where
  pub program : new.program ≡ old.program
  pub span : new.span ≡ old.span
  pub more : length old.code ≤ length new.code
  pub kept : (q : ℕ) → q < length old.code → at new.code q ≡ at old.code q

-- The new start values.
--   shown_slot          where the ring holds what the original shows as new start value t of an edge: by the label of the node that it enters
use Rattle.std.specs.Prelude.{ℕ, ◌+◌, ◌-◌}
use Rattle.starts.specs.inner.Ring.{slot_of}

-- In clock t − r(v).
abbrev pub shown_slot : ℕ → ℕ → ℕ → ℕ → ℕ → ℕ
shown_slot u w word label t = slot_of u w word (t + 16384 - label)

-- The theorems of specs/Theorems.
-- Runs and steps have one outcome, and each has one: one_run, one_step, some_run, some_step.
pub mod One
pub mod Some
-- What reads has an input and an output: has_pins.
pub mod Pins
-- A run is steps, and none of them is refused: run_is_stepping, steps_go_on.
pub mod Stepping
-- Rows and words that are not looked at: words_unread.
pub mod Unread
-- The trace exists and is the only one, and a run puts out its values: trace_exists, trace_unique, run_is_trace.
pub mod Trace
-- Netlists whose traces agree run alike: runs_alike.
pub mod Alike

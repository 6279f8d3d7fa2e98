-- The laws of what is printed.
-- A refusal; a text read and written again.
pub mod Shown
-- The bytes of a number.
pub mod Bytes
-- Bits as digits; a run.
pub mod Digits
pub mod Runs
-- A quote.
pub mod Quoted
-- A text's rails.
pub mod Shared
-- Lags as numbers of two bytes, and their lines.
pub mod Lines
-- Long texts: more_decides_nothing.
pub mod More
-- What `list` puts out, by cases.
pub mod Cases
-- The other theorems of specs/Theorems: some_print, one_print, pages_hold.
pub mod Theorems

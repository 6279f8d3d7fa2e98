-- The laws of netlists, from the ground up.
-- Columns of rows.
pub mod Rows
-- The rules of a line as facts; a line's numbers, written and read.
pub mod Fits
pub mod Fields
pub mod Numbers
-- A step of reading for each way that a line can go; what has been written so far.
pub mod Stages
pub mod Written
-- From a record's text to its lines, and from any text to an account of its lines.
pub mod Run
pub mod Account
-- Facts in a row.
pub mod Order
-- The rules of the whole: one answer at most, and one at least.
pub mod Judged
pub mod Lowest
pub mod Decide
-- They say the same of netlists that are the same.
pub mod Alike
-- A record's edges as wires.
pub mod Wiring
-- The theorems of specs/Theorems.
pub mod theorems
-- What leaves by a `?`.
pub mod Exits
-- From what a stage answered to what reading and writing say.
pub mod Answered
-- What a record in code holds; a record checked.
pub mod Typed
pub mod Checked
-- A text read and written again.
pub mod Rewritten

-- The laws of quotes, from the ground up.
-- The largest of some numbers.
pub mod Most
-- The smallest period that some retiming meets.
pub mod Periods
-- A quote and its row.
pub mod Call
-- The text with another period in its head, retimed.
pub mod Retimed
-- The theorems of specs/Theorems.
pub mod theorems
-- The search by halving, and the figures from the counts that it ends with.
pub mod Halves
pub mod Figures

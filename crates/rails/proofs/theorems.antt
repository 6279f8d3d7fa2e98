-- The theorems of specs/Theorems.
-- A text has one outcome, and each has one; the total is at most the plain one: some_rails, one_rails, at_most_plain, plain_where_alone.
pub mod Total
-- A node's count is the number of different runs: runs_counted.
pub mod Runs
-- A retimed text can be counted: retimed_counts.
pub mod Retimed

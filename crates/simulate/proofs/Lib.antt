-- The laws of clocks, from the ground up.
-- Words that move on; what is joined.
-- Lists that are picked from the numbers below a bound.
pub mod Words
pub mod Bits
-- One clock by equations; what is said of steps and runs that are not refused.
pub mod Clock
pub mod Says
-- The plan: the edges sorted by the node that they enter; the plan, from its parts.
pub mod Seen
pub mod Plans
-- The tests of rule 13, a turn at a time.
pub mod Asked
-- What a run lists; stores over a list; the parts of one clock, over these lists.
pub mod Listed
pub mod Written
pub mod Signals
-- One clock of the code is one clock of the paper; clocks in a row.
pub mod Evaluated
pub mod Ran
-- From what a call found to what it says.
pub mod Answered
pub mod theorems

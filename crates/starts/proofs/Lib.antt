-- New start values.
pub mod Quiet
-- Where an edge's value stands in the ring.
pub mod Slots
pub mod Wired
-- The members of a list that are kept; the nodes that are evaluated in a clock.
pub mod Kept
pub mod Listed
-- The original with all inputs at 0, in the ring: one clock of all nodes, 32 clocks of each in a row, the loop over the clocks.
pub mod Held
pub mod Clock
pub mod Turned
pub mod Block
pub mod Followed
-- The new start values read off the ring.
pub mod Found

-- The laws of shared registers, from the ground up.
-- Runs that begin alike, as values and as numbers.
pub mod Agreed
-- What the edges below a number share, one edge more; what is paid for.
pub mod Shared
-- The edges that leave a node, one after the other.
pub mod Lower
-- A netlist that fits has few edges.
pub mod Few
-- Sums over edges and nodes, and tables filled.
pub mod Sums
pub mod Counted
-- From what the call found to what it says.
pub mod Answered
-- The definition on small netlists.
pub mod Cards
-- The theorems of specs/Theorems.
pub mod theorems

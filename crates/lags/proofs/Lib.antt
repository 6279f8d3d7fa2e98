-- For users: what reading gives, and lags.
pub mod Laws
-- The edges by node, and lists of all nodes.
pub mod Wires
-- Distances from the pins, and the labels to start from.
pub mod Starts
-- Rounds: arrival times, the order that is kept, and how the search ends.
pub mod Arrivals
pub mod Orders
pub mod Search
-- Labels and times together: a sweep, and how the climb ends.
pub mod Sweeps
pub mod Found

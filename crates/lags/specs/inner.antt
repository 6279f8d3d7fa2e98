-- What the crate promises.
pub mod Lags
-- What its inner functions promise each other: what they go by, the labels to start from, the rounds, and the climb.
pub mod Wires
pub mod Starts
pub mod Rounds
pub mod Climb

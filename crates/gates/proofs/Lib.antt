-- The laws of a gate's value, from the ground up.
-- A word built bit by bit.
pub mod Spelt
-- The parts of a list of signals; bits gathered in a word.
pub mod Words
-- The gates, as the paper says them.
pub mod GateLaws
-- A truth word works.
pub mod Reckons
-- A row of gates, a turn at a time.
pub mod Row

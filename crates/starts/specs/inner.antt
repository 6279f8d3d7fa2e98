-- The original on zeros, in a ring, clock by clock or 32 clocks of a gate in a row; the new start values, read off it.
pub mod Ring
pub mod Wired
pub mod Ahead
pub mod Starts

-- Inside: labels and the new counts by them; what is known once 9, and once 10 is not said; the chosen values as words; columns.
pub mod Labels
pub mod Moving
pub mod Chosen
pub mod Columns

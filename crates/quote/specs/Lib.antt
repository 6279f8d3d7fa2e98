-- Quotes: what a text is quoted, and what is to be proved of it.
pub mod Quote
pub mod Theorems
-- What functions promise each other.
pub mod inner

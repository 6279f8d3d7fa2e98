-- The laws of the exported calls.
-- The theorems of specs/Theorems.
pub mod Theorems

-- Clocks, in the order in which they are best read: one clock; stepping; running; what is to be proved.
pub mod Clock
pub mod Step
pub mod Run
pub mod Theorems
-- What functions promise each other.
pub mod inner

-- Retiming texts: the outcome, demand 3, what is to be proved, the bench cards.
pub mod Retime
pub mod Demand
pub mod Theorems
pub mod Card
-- What functions promise each other.
pub mod inner

-- The rules of one line.
pub mod Rules
-- Gate kinds by their numbers.
pub mod Kinds

-- A part of a list that is put anew.
pub mod Parts
-- Dues by level, and the loops that put them in rows.
pub mod Dues
pub mod Putting
-- Choices as numbers; values of cells, and what they depend on.
pub mod Next
pub mod Values
-- Lists of fillings and a choice, and the best of those that were tried.
pub mod Lists
-- The search, turn by turn.
pub mod States
-- From rows back to what is due.
pub mod Solved

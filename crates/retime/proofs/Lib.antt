-- The laws of retiming texts.
-- The order of its refusals.
pub mod Order
-- A call and its row.
pub mod Call
-- From what a stage found to what it promises.
pub mod Stages
-- The bench cards as texts.
pub mod cards
-- The theorems of specs/Theorems, and the cards.
pub mod theorems

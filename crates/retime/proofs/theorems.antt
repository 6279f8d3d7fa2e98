-- The theorems of specs/Theorems, and the cards.
-- The new text is as long as the old one, and it reads: same-length, moved_reads.
pub mod Moved
-- A call has one outcome, and each has one: one_outcome, some_outcome.
pub mod Outcome
-- Each number is given exactly when its fact holds and no earlier one does, and a refusal leaves all that was lent: refusal_facts, unread_fact, nothing_touched.
pub mod Refusals
-- Demand 3, and the bounds on lags: demand_follows, lags_fit.
pub mod Demand
-- The cards as texts, and demand 3 of card A: cards_hold, demand_asks.
pub mod Cards

-- The theorems of specs/Theorems.
-- A text has one quote, and each has one: one_quote, some_quote.
pub mod Outcome
-- Longer and shorter periods, and another period in the head: longer_forbids_less, period_reads, period_plays_no_part.
pub mod Period
-- Retiming at the quoted period: eight_fact, quote_is_retiming.
pub mod Retiming

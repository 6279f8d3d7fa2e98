-- The theorems of specs/Theorems.
-- A text has one outcome at most, a record one writing: one_reading, one_writing; and every text has one: some_reading.
pub mod One
-- Which texts have lines without a fault, and which fault the others have: lines_fact, fault_fact.
pub mod Lines
pub mod Some
-- What is said of the whole: refusal_facts.
pub mod Refusals
-- No line is looked at past byte 25,105: more_decides_nothing.
pub mod More
-- A record's own lines, and what is said of it: record_fact, record_faults, record_judged.
pub mod Record
-- What reads is sound: read_is_sound.
pub mod Sound
-- What a half is rounded to: nearest_even, half_cards; and the sum by which it is found.
pub mod Halves
-- Demand 2, and rows that are read by nothing: round_trip_text, round_trip_netlist, record_rows_unread.
pub mod RoundTrip
-- A record has a writing, and is written exactly where it keeps the rules: some_writing, sound_written.
pub mod Writing
-- The walk from the inputs: some_walk, one_walk, walk_begins, walk_ends.
pub mod Walk

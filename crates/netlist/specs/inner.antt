-- Between the stages of reading.
pub mod Stages
-- The theory's words that are said of a netlist inside.
pub mod Words
-- Between the stages of checking a record.
pub mod Record
-- A record's edges as wires.
pub mod Wiring

-- Spans, cell by cell.
pub mod Spanning
-- New numbers, cell by cell and level by level.
pub mod Numbering
pub mod Levelling
-- The program copied under the new numbers.
pub mod Renumbering
-- The program under the new numbers gives the same.
pub mod Programs

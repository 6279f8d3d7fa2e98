-- The laws of moved netlists, from the ground up.
-- Words of start values; rows of a column and of a table; a column filled from the front.
pub mod Words
pub mod Rows
pub mod Fills
-- Labels and lags.
pub mod Labels
-- Lags that agree at the nodes do the same.
pub mod Lags
-- A netlist with other registers.
pub mod Moved

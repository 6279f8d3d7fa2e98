-- The moved netlist.
pub mod Moved
-- What functions promise each other.
pub mod inner

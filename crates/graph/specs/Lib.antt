-- Graphs in columns: lists of numbers that stand for a theory's graph, and what the algorithms over them find.
pub mod Columns
pub mod Wires
-- Reach in passes.
pub mod Layers
-- What functions promise each other.
pub mod inner

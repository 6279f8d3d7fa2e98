-- What functions promise each other. Nobody has to believe it.
pub mod Marks
-- Items by key, and the evaluation order.
pub mod Sort
-- Lists that loops fill.
pub mod Lists
pub mod Laid
-- Passes over a queue.
pub mod Layers
-- The evaluation order, node by node.
pub mod Order
-- Lists that are picked.
pub mod Picks

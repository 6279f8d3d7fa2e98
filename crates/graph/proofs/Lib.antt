-- Stores into lists; lists that loops fill; parts of lists.
pub mod Sets
pub mod Fills
pub mod Parts
-- What the times say of loops and of reach.
pub mod Answers
-- Items by key: laws, and the loops that put them in their places.
pub mod Sorted
pub mod ByNode
pub mod Placing
-- Lists without repeats.
pub mod Once
-- Reach in passes: marks that spread, passes.
pub mod Spread
pub mod Passes
-- The evaluation order.
pub mod Stage
pub mod Evaluation
-- For users: reach from inputs and to outputs; loops.
pub mod Laws
-- Lists that are picked.
pub mod Picks
-- Places in a list.
pub mod Places

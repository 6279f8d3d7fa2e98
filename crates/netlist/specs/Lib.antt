-- Netlists, in the order in which they are best read.
-- The paper's numbers for answers; refusals in words; the record; its circuit, in the theory's words; reading (the rules of one line are the crate rules'); writing; the walk from the inputs; the theorems.
pub mod Answer
pub mod Sentence
pub mod Order
pub mod Net
pub mod Circuit
pub mod Read
pub mod Write
pub mod Walk
pub mod Theorems
-- What functions promise each other.
pub mod inner

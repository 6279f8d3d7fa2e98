-- Shared registers, in the order in which they are best read: the call; what is to be proved of it.
pub mod Rails
pub mod Theorems
-- What functions promise each other.
pub mod inner

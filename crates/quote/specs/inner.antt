-- What functions promise each other.
pub mod Quoted

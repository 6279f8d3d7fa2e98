-- What functions promise each other. Nobody has to believe it.
pub mod Shared

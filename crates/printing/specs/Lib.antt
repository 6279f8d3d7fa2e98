-- What the programs print.
-- Of a refusal, and of a text read and written again; of a run; of a text retimed; of a quote; of a text's rails.
pub mod Shown
pub mod Printed
pub mod Listed
pub mod Quoted
pub mod Shared
-- What is to be proved of a text retimed, the bench cards as printed among it.
pub mod Theorems
-- What functions promise each other.
pub mod inner

-- What functions promise each other. Nobody has to believe it.
pub mod Arrival
pub mod Demand
pub mod Labels
pub mod Registers
pub mod Stepping

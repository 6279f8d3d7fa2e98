-- A gate's value from one word.
pub mod Gates

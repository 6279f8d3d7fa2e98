-- Words and their leading zeros.
pub mod Words

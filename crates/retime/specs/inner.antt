-- Inside: the same, after the text has read.
pub mod Leaves

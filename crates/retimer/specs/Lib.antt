-- The exported calls: answers as numbers, what each call promises, and that this leaves nothing open.
pub mod Code
pub mod Calls
pub mod Theorems

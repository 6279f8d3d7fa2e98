-- Digits; bytes and numbers; the laws of lines and frames; the code's records and buffers.
pub mod Digits
pub mod Numbers
pub mod Laws
pub mod Buffers
-- What the proofs of the functions share.
pub mod Steps

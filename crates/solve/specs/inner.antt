-- What the cells of a program depend on.
pub mod Parts
-- New numbers for the cells, and the program under them.
pub mod Numbers
-- The numbers as the code holds them.
pub mod Numbering

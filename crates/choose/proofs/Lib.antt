-- The laws of the search for start values, from the ground up.
-- The cells in a row, and their operands.
pub mod Arranged
pub mod Numbers
pub mod Sources
-- The program that stands for a moved netlist's search: where operands stand; values of cells, which are the nodes'.
pub mod Programs
pub mod Compiles
-- The columns that `cells` and `dues` fill are that program and what is due of it, and a right one.
pub mod Runs
pub mod Columns
pub mod Widths
pub mod Right
-- The words of the number that is taken.
pub mod Chosen
-- The evaluation order of the moved netlist.
pub mod Orders

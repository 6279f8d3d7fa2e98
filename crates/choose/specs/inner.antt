-- The start values to be found, as a program for the search: what is known of the moved netlist; cells, their numbers, operands, what is due of them; put together; the answer.
pub mod Task
pub mod Dues
pub mod Cells
pub mod Numbers
pub mod Sources
pub mod Wires
pub mod Chosen

-- A row of gates over chosen bits, and the smallest choice that gives what is due.
pub mod Program
-- What is searched, as the code holds it.
pub mod Problem
-- What is due, put in rows.
pub mod Rows
-- What the functions of the search promise each other.
pub mod States

-- Inside: the plan of a netlist and its lists, made once; the parts of one clock; clocks in a row.
pub mod Plan
pub mod Lists
pub mod Signals
pub mod Ran

-- The cards, by the theory's table of cards.
-- The netlist of a card's rows, and its circuit.
pub mod Net
-- A test that its text reads.
pub mod Reads
-- From what the theory's card claims to what the text's does.
pub mod Claims

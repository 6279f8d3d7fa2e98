-- The gate kinds of document 01: "00 input; 01 output; 02 buffer and 03 inverter; 04 AND, 05 OR, 06 XOR, 07 NAND, 08 NOR, 09 XNOR"; and 0A, the selector.
-- The other definitions take any gates; the cards take these.
--   ones l              how many of the values are 1
--   gate_by k n c       the value of a gate of kind k with n inputs of which c are 1
--   selected l          what a selector gives that sees the values l: select, first, second
--   gate k l            the value of a gate of kind k that sees the values l
use Rattle.std.specs.Prelude.{cond, List, [], ◌∷◌, ℕ, ◌+◌, ◌-◌, ◌%◌, min, eqb, length, get_or}

-- How many inputs are 1.
abbrev pub ones : List ℕ → ℕ
ones [] = 0
ones (a ∷ l) = a + ones l

-- One value for each kind, by how many inputs there are and how many of them are 1: 1 where an input is 1 (output, buffer, OR), where none is
-- (inverter, NOR), where all are (AND) or not all (NAND), and "XOR is 1 when an odd number of its inputs are 1, XNOR when an even number are".
-- An input's value is not made by a gate.
abbrev pub gate_by : ℕ → ℕ → ℕ → ℕ
gate_by k n c =
    let some = min 1 c in
    let none = 1 - c in
    let every = 1 - (n - c) in
    let odd = c % 2 in
    get_or (0 ∷ some ∷ some ∷ none ∷ every ∷ some ∷ odd ∷ (1 - every) ∷ none ∷ (1 - odd) ∷ []) k 0

-- "Its in-edges, in edge-number order, are select, first, second; it gives the first when select is 0, the second when it is 1": the value at place 1 + select.
-- It is a bit whatever the list holds.
abbrev pub selected : List ℕ → ℕ
selected l = min 1 (get_or l (1 + min 1 (get_or l 0 0)) 0)

-- The gate over the list of values seen, in edge order: a selector by their places, all others by how many are 1.
abbrev pub gate : ℕ → List ℕ → ℕ
gate k l = cond (eqb k 10) (selected l) (gate_by k (length l) (ones l))

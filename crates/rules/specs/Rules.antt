-- The rules of one line: 2, 3 and 4, and the table by gate kind that 3 and 5 read.
--   rule_of k           how many in-edges a gate of kind k may have, and which delays
--   head_fits           the head's numbers are in their ranges (else 2)
--   node_fits           a node's gate kind and delay go together (else 3)
--   edge_fits           an edge's numbers keep its rules (else 4)
use Rattle.std.specs.Prelude.{Bool, true, false, cond, not, List, [], ◌∷◌, ℕ, ◌^◌, eqb, ltb, leb}
use Rattle.frame.specs.Frame.{within}
use Rattle.rules.specs.declared.Rule.{Rule}

-- "Gate kinds, with in-edges: 00 input, none; 01 output, one; 02 buffer and 03 inverter, one; 04 AND, 05 OR, 06 XOR, 07 NAND, 08 NOR, 09 XNOR, each two to eight."
-- "a three-input selector, kind 0A": select, first, second.
-- "Inputs and outputs have delay 0, gates 1 to 255."
unfoldable pub rule_of : ℕ → Rule
rule_of k = record {
  fewest = cond (ltb k 1) 0 (cond (ltb k 4) 1 (cond (ltb k 10) 2 3));
  most = cond (ltb k 1) 0 (cond (ltb k 4) 1 (cond (ltb k 10) 8 3));
  low = cond (ltb k 2) 0 1;
  high = cond (ltb k 2) 0 255;
}

-- All of them hold.
abbrev pub every : List Bool → Bool
every [] = true
every (b ∷ bs) = cond b (every bs) false

-- "Period 1 to 65,535, derate 50 to 250, N 2 to 512, E 1 to 1,024."
unfoldable pub head_fits : ℕ → ℕ → ℕ → ℕ → Bool
head_fits period derate n e = every (within 1 65535 period ∷ within 50 250 derate ∷ within 2 512 n ∷ within 1 1024 e ∷ [])

-- "3 now begins above kind 0A"; or a wrong delay.
unfoldable pub node_fits : ℕ → ℕ → Bool
node_fits kind delay = every (leb kind 10 ∷ within (rule_of kind).low (rule_of kind).high delay ∷ [])

-- "register count 0 to 32 (1), start values (4). … Bits at or above the count are 0." "No edge enters an input or leaves an output."
-- "an edge rule broken (node number, count, bits, pin)" is 4.
unfoldable pub edge_fits : ℕ → (ℕ → ℕ) → ℕ → ℕ → ℕ → ℕ → Bool
edge_fits nodes kind u v count start =
    every (ltb u nodes ∷ ltb v nodes ∷ leb count 32 ∷ ltb start (2 ^ count) ∷ not (eqb (kind u) 1) ∷ not (eqb (kind v) 0) ∷ [])

-- A gate's value from one word. A truth word has a gate's values in bits 0 to 8; from bit 9 up stands the seed that its inputs are gathered behind.
-- Where the number of ones decides, bit j is the value for j ones and the seed is 0; a selector, whose inputs' order counts, has a bit for each row of inputs
-- and the seed 32.
--   part list lo hi     the members of a list from place lo up to place hi
--   AllBits l           every member is 0 or 1
--   word_from w l       the bits l gathered behind the word w, the first one highest
--   picked w            which bit of a truth word the gathered word w asks for: the number of its ones, and from 256 up the inputs of a selector themselves
--   worked truth l      what the truth word gives for the inputs l
--   Narrow truth n      the word of n inputs, gathered behind the seed of the truth word, is below 264
--   Reckons kind n truth   for any n inputs that is what the gate gives, and the gathered word is narrow
--   Table index         the table of `picked`
--   InputRows           the signals that one gate sees are in place
--   evaluated           the signals after the first n gates of a list, each from those before it
--   Evaluable, Truths   what evaluating a list of gates asks of the columns; their truth words are those of the kinds
use Rattle.std.specs.Prelude.{◌≡◌, cond, List, [], ◌∷◌, map, ℕ, zero, suc, ◌+◌, ◌-◌, ◌*◌, ◌^◌, ◌/◌, ◌%◌, ◌<◌, ◌≤◌, ltb, length, take, drop, set}
use Rattle.std.specs.Int.Count.{ones}
use Rattle.theory.specs.Gate.{gate}
use Rattle.graph.specs.Columns.{at, bit}

abbrev pub part : List ℕ → ℕ → ℕ → List ℕ
part list lo hi = take (hi - lo) (drop lo list)

abbrev pub AllBits : List ℕ → Type 0
AllBits l = (i : ℕ) → at l i ≤ 1

-- "inputs gathered in one word".
unfoldable pub word_from : ℕ → List ℕ → ℕ
word_from w [] = w
word_from w (x ∷ l) = word_from (w * 2 + x) l

-- "ones counted decide"; behind the seed 32 stand three inputs, which are kept as they are.
unfoldable pub picked : ℕ → ℕ
picked w = cond (ltb w 256) (ones w) (w % 8)

abbrev pub worked : ℕ → List ℕ → ℕ
worked truth l = bit truth (picked (word_from (truth / 512) l))

abbrev pub Narrow : ℕ → ℕ → Type 0
Narrow truth n = suc (truth / 512) * 2 ^ n ≤ 264

pub record Reckons (kind n truth : ℕ) : Type 0 where
  pub gives : (l : List ℕ) → length l ≡ n → AllBits l → worked truth l ≡ gate kind l
  pub narrow : Narrow truth n

pub record Table (index : List ℕ) : Type 0 where
  pub rows : 264 ≤ length index
  pub picks : (w : ℕ) → w < 264 → at index w ≡ picked w

pub record InputRows (truth : ℕ) (sees sig : List ℕ) : Type 0 where
  pub narrow : Narrow truth (length sees)
  pub signals : (j : ℕ) → j < length sees → (at sees j < length sig) × (at sig (at sees j) ≤ 1)

-- Gate v sees the signals listed from place first(v) up to first(v + 1), and its value goes to base + v.
unfoldable pub evaluated : List ℕ → List ℕ → List ℕ → List ℕ → ℕ → ℕ → List ℕ → List ℕ
evaluated kind node first list base zero sig = sig
evaluated kind node first list base (suc n) sig =
    let before = evaluated kind node first list base n sig in
    let v = at node n in
    set before (base + v) (gate (at kind v) (map (at before) (part list (at first v) (at first (suc v)))))

-- Gate v has a truth word, a place for its value, and signals to see.
pub record GateRows (truth first list : List ℕ) (base size v : ℕ) : Type 0 where
  pub in_truth : v < length truth
  pub in_first : suc v < length first
  pub in_size : base + v < size
  pub up : at first v ≤ at first (suc v)
  pub in_list : at first (suc v) ≤ length list
  pub narrow : Narrow (at truth v) (at first (suc v) - at first v)
  pub signals : (j : ℕ) → at first v ≤ j → j < at first (suc v) → at list j < size

pub record Evaluable (node truth first list : List ℕ) (gates base : ℕ) (sig : List ℕ) : Type 0 where
  pub in_node : gates ≤ length node
  pub placed : (i : ℕ) → i < gates → GateRows truth first list base (length sig) (at node i)
  pub bits : AllBits sig

-- Each gate of the list has a truth word of its kind.
abbrev pub Truths : List ℕ → List ℕ → List ℕ → List ℕ → ℕ → Type 0
Truths kind node truth first gates = (i : ℕ) → i < gates → Reckons (at kind (at node i)) (at first (suc (at node i)) - at first (at node i)) (at truth (at node i))

-- Bench cards A to J of document 01, and card S with a selector, as texts: what retiming leaves of them, and what card H runs to.
--   printed             the bytes of lines as they are printed
--   Card, Result        a text, and what is to come of it
--   Claim               that it does come of it, by the definitions, in all buffers that are long enough
--   card_of, card_back  a card from its parts: the head and the nodes, the edges, what is to come of them, or the new edges with the lags and how many values are chosen
--   cards               the cards
--   CardsHold, DemandAsks    what is to be proved of them
use Rattle.std.specs.Prelude.{◌≡◌, List, [], ◌∷◌, ◌++◌, ℕ, ◌<◌, ◌≤◌, ℤ, pos, negsuc, length, get_or, take, drop}
use Prim.Native.Char.{code}
use Prim.Native.String.{String, [] as end, ◌∷◌ as ◌then◌}
use Rattle.netlist.specs.declared.Netlist.{Netlist}
use Rattle.netlist.specs.Answer.{Said, value, whole, at_edge}
use Rattle.netlist.specs.Read.{Reads}
use Rattle.simulate.specs.Run.{Runs}
use Rattle.retime.specs.Retime.{Room, Retimes}
use Rattle.retime.specs.Demand.{Asked, ComesBack, table_lag, Came}

unfoldable pub bytes : String → List ℕ
bytes end = []
bytes (c then l) = code c ∷ bytes l

-- Each line is "ended by one line feed".
unfoldable pub printed : List String → List ℕ
printed [] = []
printed (l ∷ ls) = bytes l ++ (10 ∷ printed ls)

pub data Result : Type 0 where
  -- retiming gives the new text, each node's lag, and says how many values were chosen
  back : List ℕ → List ℤ → ℕ → Result
  -- retiming is refused
  refuses : Said → Result
  -- running these vectors puts these bytes out
  runs : (vectors outputs : List ℕ) → Result

pub record Card : Type 0 where
  pub text : List ℕ
  pub result : Result

abbrev pub ClaimOf : List ℕ → Result → Type 0
ClaimOf t (back new r chosen) = (net : Netlist) × Reads t (value 0) net × (length r ≡ net.nodes)
    × ((out : List ℕ) (lags : List ℤ) → Room out lags net → Retimes t out lags (value chosen) (new ++ drop (length new) out) (r ++ drop (length r) lags))
ClaimOf t (refuses s) = (net : Netlist) × Reads t (value 0) net × ((out : List ℕ) (lags : List ℤ) → Room out lags net → Retimes t out lags s out lags)
ClaimOf t (runs vectors outputs) = (old : List ℕ) → length outputs ≤ length old → Runs t vectors old (value (length outputs)) (outputs ++ drop (length outputs) old)

abbrev pub Claim : Card → Type 0
Claim c = ClaimOf c.text c.result

-- ── The cards ───────────────────────────────────────────────────────────────────────────────

-- A text is its head and nodes, and then its edges.
abbrev pub card_of : (front edges : List String) → Result → Card
card_of front edges o = record { text = printed (front ++ edges); result = o }

-- The new text has the same head and nodes, and new edges.
abbrev pub card_back : (front edges new : List String) → List ℤ → ℕ → Card
card_back front edges new r chosen = card_of front edges (back (printed (front ++ new)) r chosen)

-- "Card A, whole".
abbrev pub A : Card
A = card_back ("0100016400040003" ∷ "020000" ∷ "020301" ∷ "020301" ∷ "020100" ∷ [])
    ("03000000010100000001" ∷ "03000100020000000000" ∷ "03000200030100000000" ∷ [])
    ("03000000010000000000" ∷ "03000100020100000000" ∷ "03000200030100000000" ∷ []) (pos 0 ∷ negsuc 0 ∷ pos 0 ∷ pos 0 ∷ []) 0

-- "A with period 2: node 2 has lag −1 too, the last edge holds 2 registers, values hex 2."
abbrev pub B : Card
B = card_back ("0100026400040003" ∷ "020000" ∷ "020301" ∷ "020301" ∷ "020100" ∷ [])
    ("03000000010100000001" ∷ "03000100020000000000" ∷ "03000200030100000000" ∷ [])
    ("03000000010000000000" ∷ "03000100020000000000" ∷ "03000200030200000002" ∷ []) (pos 0 ∷ negsuc 0 ∷ negsuc 0 ∷ pos 0 ∷ []) 0

-- "two inputs into an AND, then an inverter, then one register with value 0 before the output; delays 1, period 1: inverter lag 1, chosen value 1."
abbrev pub C : Card
C = card_back ("0100016400050004" ∷ "020000" ∷ "020000" ∷ "020401" ∷ "020301" ∷ "020100" ∷ [])
    ("03000000020000000000" ∷ "03000100020000000000" ∷ "03000200030000000000" ∷ "03000300040100000000" ∷ [])
    ("03000000020000000000" ∷ "03000100020000000000" ∷ "03000200030100000001" ∷ "03000300040000000000" ∷ []) (pos 0 ∷ pos 0 ∷ pos 0 ∷ pos 1 ∷ pos 0 ∷ []) 1

-- "input, two buffers in a row, the second feeding two outputs, one through a register of value 0, one through a register of value 1; period 1: `0F0B000000`."
abbrev pub D : Card
D = card_of ("0100016400050004" ∷ "020000" ∷ "020201" ∷ "020201" ∷ "020100" ∷ "020100" ∷ [])
    ("03000000010000000000" ∷ "03000100020000000000" ∷ "03000200030100000000" ∷ "03000200040100000001" ∷ []) (refuses (whole 11))

-- "period 2: unmoved."
abbrev pub E : Card
E = card_back ("0100026400050004" ∷ "020000" ∷ "020201" ∷ "020201" ∷ "020100" ∷ "020100" ∷ [])
    ("03000000010000000000" ∷ "03000100020000000000" ∷ "03000200030100000000" ∷ "03000200040100000001" ∷ [])
    ("03000000010000000000" ∷ "03000100020000000000" ∷ "03000200030100000000" ∷ "03000200040100000001" ∷ []) (pos 0 ∷ pos 0 ∷ pos 0 ∷ pos 0 ∷ pos 0 ∷ []) 0

-- "input, two buffers, output, no registers, period 1: 8."
abbrev pub F : Card
F = card_of ("0100016400040003" ∷ "020000" ∷ "020201" ∷ "020201" ∷ "020100" ∷ [])
    ("03000000010000000000" ∷ "03000100020000000000" ∷ "03000200030000000000" ∷ []) (refuses (whole 8))

-- "two inputs, each with a buffer, into an OR, register 1, output; period 1: chosen 0 then 1."
abbrev pub G : Card
G = card_back ("0100016400060005" ∷ "020000" ∷ "020000" ∷ "020201" ∷ "020201" ∷ "020501" ∷ "020100" ∷ [])
    ("03000000020000000000" ∷ "03000100030000000000" ∷ "03000200040000000000" ∷ "03000300040000000000" ∷ "03000400050100000001" ∷ [])
    ("03000000020000000000" ∷ "03000100030000000000" ∷ "03000200040100000000" ∷ "03000300040100000001" ∷ "03000400050000000000" ∷ []) (pos 0 ∷ pos 0 ∷ pos 0 ∷ pos 0 ∷ pos 1 ∷ pos 0 ∷ []) 2

-- "input and a one-register loop (value 0) into an XOR; vectors 1, 0, 1, 1 run to 1, 1, 0, 1."
abbrev pub H : Card
H = card_of ("0100016400030003" ∷ "020000" ∷ "020601" ∷ "020100" ∷ [])
    ("03000000010000000000" ∷ "03000100010100000000" ∷ "03000100020000000000" ∷ []) (runs (1 ∷ 0 ∷ 1 ∷ 1 ∷ []) (1 ∷ 1 ∷ 0 ∷ 1 ∷ []))

-- "16 registers, buffer, 16, period 5: accepted."
abbrev pub I : Card
I = card_back ("0100056400030002" ∷ "020000" ∷ "020201" ∷ "020100" ∷ [])
    ("03000000011000000000" ∷ "03000100021000000000" ∷ [])
    ("03000000010000000000" ∷ "03000100022000000000" ∷ []) (pos 0 ∷ negsuc 15 ∷ pos 0 ∷ []) 0

-- "20 and 20: 9."
abbrev pub J : Card
J = card_of ("0100056400030002" ∷ "020000" ∷ "020201" ∷ "020100" ∷ [])
    ("03000000011400000000" ∷ "03000100021400000000" ∷ []) (refuses (at_edge 9 1))

-- Three inputs, each with a buffer, into a selector, register 1, output; period 1: selector lag 1, chosen 0, 1, 0.
abbrev pub S : Card
S = card_back ("0100016400080007" ∷ "020000" ∷ "020000" ∷ "020000" ∷ "020201" ∷ "020201" ∷ "020201" ∷ "020A01" ∷ "020100" ∷ [])
    ("03000000030000000000" ∷ "03000100040000000000" ∷ "03000200050000000000"
    ∷ "03000300060000000000" ∷ "03000400060000000000" ∷ "03000500060000000000" ∷ "03000600070100000001" ∷ [])
    ("03000000030000000000" ∷ "03000100040000000000" ∷ "03000200050000000000"
    ∷ "03000300060100000000" ∷ "03000400060100000001" ∷ "03000500060100000000" ∷ "03000600070000000000" ∷ [])
    (pos 0 ∷ pos 0 ∷ pos 0 ∷ pos 0 ∷ pos 0 ∷ pos 0 ∷ pos 1 ∷ pos 0 ∷ []) 3

abbrev pub cards : List Card
cards = A ∷ B ∷ C ∷ D ∷ E ∷ F ∷ G ∷ H ∷ I ∷ J ∷ S ∷ []

-- Every card holds.
abbrev pub CardsHold : Type 0
CardsHold = (k : ℕ) → k < length cards → Claim (get_or cards k A)

-- Demand 3 is not empty: it asks for card A in all buffers that are long enough, and A comes back.
abbrev pub DemandAsks : Type 0
DemandAsks = (out : List ℕ) (lags : List ℤ) → length A.text ≤ length out → 4 ≤ length lags
    → (net : Netlist) × Asked A.text out lags net
    × ((s : Said) (out' : List ℕ) (lags' : List ℤ) → Retimes A.text out lags s out' lags'
    → ComesBack s × Came A.text net (take (length A.text) out') (table_lag lags'))

-- What is to be proved of what `listing` prints. Each is a type; proofs/Theorems has a term of it.
--   SomePrint, OnePrint   of every text something is printed, and one thing only
--   MorePrintsNothingElse  what is printed of a text is what is printed of its front
--   Page, pages           the bench cards, with the lines that are printed after the new text
--   PagesHold             they are printed so
use Rattle.std.specs.Prelude.{◌≡◌, ◌↔◌, List, [], ◌∷◌, ◌++◌, ℕ, ◌<◌, length, get_or, take}
use Prim.Native.String.{String}
use Rattle.retime.specs.Card.{printed, Result, back, refuses, runs, ClaimOf, Card, A, B, C, D, E, F, G, H, I, J, S}
use Rattle.printing.specs.Listed.{Prints}

abbrev pub SomePrint : Type 0
SomePrint = (t : List ℕ) → (p : List ℕ) × Prints t p

abbrev pub OnePrint : Type 0
OnePrint = (t p q : List ℕ) → Prints t p → Prints t q → p ≡ q

-- "reads a text of up to 32,768 bytes (more decides nothing)": nor do the bytes past the 25,106th.
abbrev pub MorePrintsNothingElse : Type 0
MorePrintsNothingElse = (t : List ℕ) (n : ℕ) → 25105 < n → (p : List ℕ) → Prints t p ↔ Prints (take n t) p

-- ── The bench cards ─────────────────────────────────────────────────────────────────────────

pub record Page : Type 0 where
  pub card : Card
  pub ends : List String

-- A card that is retimed prints its new text and the lines of the lags, one that is refused its refusal's line. (Card H is run, not listed.)
abbrev pub PageOf : List ℕ → Result → List String → Type 0
PageOf t (back new r chosen) ends = Prints t (new ++ printed ends)
PageOf t (refuses s) ends = Prints t (printed ends)
PageOf t (runs vectors outputs) ends = ClaimOf t (runs vectors outputs)

abbrev pub first : Page
first = record { card = A; ends = "0400000000" ∷ "040001FFFF" ∷ "0400020000" ∷ "0400030000" ∷ [] }

abbrev pub pages : List Page
pages =
    first
    ∷ record { card = B; ends = "0400000000" ∷ "040001FFFF" ∷ "040002FFFF" ∷ "0400030000" ∷ [] }
    ∷ record { card = C; ends = "0400000000" ∷ "0400010000" ∷ "0400020000" ∷ "0400030001" ∷ "0400040000" ∷ [] }
    ∷ record { card = D; ends = "0F0B000000" ∷ [] }
    ∷ record { card = E; ends = "0400000000" ∷ "0400010000" ∷ "0400020000" ∷ "0400030000" ∷ "0400040000" ∷ [] }
    ∷ record { card = F; ends = "0F08000000" ∷ [] }
    ∷ record { card = G; ends = "0400000000" ∷ "0400010000" ∷ "0400020000" ∷ "0400030000" ∷ "0400040001" ∷ "0400050000" ∷ [] }
    ∷ record { card = H; ends = [] }
    ∷ record { card = I; ends = "0400000000" ∷ "040001FFF0" ∷ "0400020000" ∷ [] }
    ∷ record { card = J; ends = "0F09030001" ∷ [] }
    ∷ record { card = S; ends = "0400000000" ∷ "0400010000" ∷ "0400020000" ∷ "0400030000" ∷ "0400040000" ∷ "0400050000" ∷ "0400060001" ∷ "0400070000" ∷ [] }
    ∷ []

abbrev pub PagesHold : Type 0
PagesHold = (k : ℕ) → k < length pages → PageOf (get_or pages k first).card.text (get_or pages k first).card.result (get_or pages k first).ends

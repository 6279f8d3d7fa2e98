-- The library's calls leave nothing open.
--   Small, OneMeaning                 a number stands for one answer only
--   OneReadCall, OneCheckCall, ..     what a call was lent fixes its number and all that it leaves
use Rattle.std.specs.Prelude.{◌≡◌, List, ℕ, ◌<◌, ℤ}
use Rattle.netlist.specs.declared.Netlist.{Netlist}
use Rattle.netlist.specs.Answer.{Said, value, refused}
use Rattle.simulate.specs.declared.Machine.{Machine}
use Rattle.retimer.specs.declared.Figures.{Figures}
use Rattle.retimer.specs.Code.{code}
use Rattle.retimer.specs.Calls.{ReadCall, CheckCall, WriteCall, StepCall, RunCall, RetimeCall, RereadCall, QuoteCall, RailsCall}

-- A number of bytes, or "number (1), place kind (1), place (2)".
abbrev pub Small : Said → Type 0
Small (value n) = n < 9223372036854775808
Small (refused q k p) = (q < 256) × (k < 256) × (p < 65536)

abbrev pub OneMeaning : Type 0
OneMeaning = (s s' : Said) → Small s → Small s' → code s ≡ code s' → s ≡ s'

abbrev pub OneReadCall : Type 0
OneReadCall = (t : List ℕ) (net : Netlist) (r r' : ℕ) (new new' : Netlist) → ReadCall t net r new → ReadCall t net r' new' → (r ≡ r') × (new ≡ new')

abbrev pub OneCheckCall : Type 0
OneCheckCall = (net : Netlist) (r r' : ℕ) → CheckCall net r → CheckCall net r' → r ≡ r'

abbrev pub OneWriteCall : Type 0
OneWriteCall = (net : Netlist) (out : List ℕ) (r r' : ℕ) (new new' : List ℕ) → WriteCall net out r new → WriteCall net out r' new' → (r ≡ r') × (new ≡ new')

abbrev pub OneStepCall : Type 0
OneStepCall = (net : Netlist) (m : Machine) (vector out : List ℕ) (r r' : ℕ) (m' m'' : Machine) (new new' : List ℕ)
    → StepCall net m vector out r m' new → StepCall net m vector out r' m'' new' → (r ≡ r') × (m' ≡ m'') × (new ≡ new')

abbrev pub OneRunCall : Type 0
OneRunCall = (t vectors out : List ℕ) (r r' : ℕ) (new new' : List ℕ) → RunCall t vectors out r new → RunCall t vectors out r' new' → (r ≡ r') × (new ≡ new')

abbrev pub OneRetimeCall : Type 0
OneRetimeCall = (t out : List ℕ) (lags : List ℤ) (r r' : ℕ) (new new' : List ℕ) (lags' lags'' : List ℤ)
    → RetimeCall t out lags r new lags' → RetimeCall t out lags r' new' lags'' → (r ≡ r') × (new ≡ new') × (lags' ≡ lags'')

abbrev pub OneRereadCall : Type 0
OneRereadCall = (t out : List ℕ) (r r' : ℕ) (new new' : List ℕ) → RereadCall t out r new → RereadCall t out r' new' → (r ≡ r') × (new ≡ new')

abbrev pub OneQuoteCall : Type 0
OneQuoteCall = (t : List ℕ) (f : Figures) (r r' : ℕ) (new new' : Figures) → QuoteCall t f r new → QuoteCall t f r' new' → (r ≡ r') × (new ≡ new')

abbrev pub OneRailsCall : Type 0
OneRailsCall = (t table : List ℕ) (r r' : ℕ) (new new' : List ℕ) → RailsCall t table r new → RailsCall t table r' new' → (r ≡ r') × (new ≡ new')

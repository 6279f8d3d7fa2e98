-- What each exported call promises, refusals included. r is the number that it returns (Code); a prime marks what a lent record or buffer holds in the end.
--   ReadCall t net r net'                  the text t, read into the lent record
--   CheckCall net r                        a record checked
--   WriteCall net out r out'               a record written
--   StepCall net m vector out r m' out'    one clock of a record on the lent machine
--   RunCall t vectors out r out'           a text run
--   RetimeCall t out lags r out' lags'     a text retimed
--   RereadCall t out r out'                a text read and written again
--   figures_of q                           the figures of a quote
--   QuoteCall t f r f'                     a text quoted into the lent figures
--   RailsCall t table r table'             a text's rails counted into the lent table
-- Each fixes r and all that is left: specs/Theorems.
use Rattle.std.specs.Prelude.{◌≡◌, List, ℕ, ℤ}
use Rattle.netlist.specs.declared.Netlist.{Netlist}
use Rattle.netlist.specs.Answer.{Said, value, refused}
use Rattle.netlist.specs.Read.{Reads}
use Rattle.netlist.specs.Write.{text_of, Writes, Rewrites}
use Rattle.simulate.specs.declared.Machine.{Machine}
use Rattle.simulate.specs.Step.{Steps}
use Rattle.simulate.specs.Run.{Runs}
use Rattle.retime.specs.Retime.{Retimes}
use Rattle.retime.specs.Demand.{Demand3}
use Rattle.quote.specs.declared.Quoted.{Quoted}
use Rattle.quote.specs.Quote.{Quotes}
use Rattle.rails.specs.Rails.{Rails}
use Rattle.retimer.specs.declared.Figures.{Figures}
use Rattle.retimer.specs.Code.{Coded}

-- What a lent record holds in the end: what was found, or after a refusal what it held ("nothing lent is touched").
abbrev pub put_back : {A : Type 0} → Said → A → A → A
put_back (value n) found old = found
put_back (refused q k p) found old = old

abbrev pub ReadCall : List ℕ → Netlist → ℕ → Netlist → Type 0
ReadCall t net r net' = Coded (λ s. (read : Netlist) × Reads t s read × (net' ≡ put_back s read net)) r

-- "Writing and stepping take a netlist record and check 2 to 7 as if its lines were read." This is that check alone.
abbrev pub CheckCall : Netlist → ℕ → Type 0
CheckCall net r = Coded (λ s. (same : Netlist) × Reads (text_of net) s same) r

abbrev pub WriteCall : Netlist → List ℕ → ℕ → List ℕ → Type 0
WriteCall net out r out' = Coded (λ s. Writes net out s out') r

abbrev pub StepCall : Netlist → Machine → (vector out : List ℕ) → ℕ → Machine → List ℕ → Type 0
StepCall net m vector out r m' out' = Coded (λ s. Steps net m vector out s m' out') r

abbrev pub RunCall : (t vectors out : List ℕ) → ℕ → List ℕ → Type 0
RunCall t vectors out r out' = Coded (λ s. Runs t vectors out s out') r

-- The outcome, and demand 3 of this very call.
abbrev pub RetimeCall : (t out : List ℕ) → List ℤ → ℕ → List ℕ → List ℤ → Type 0
RetimeCall t out lags r out' lags' = Coded (λ s. Retimes t out lags s out' lags' × Demand3 t out lags s out' lags') r

abbrev pub RereadCall : (t out : List ℕ) → ℕ → List ℕ → Type 0
RereadCall t out r out' = Coded (λ s. Rewrites t out s out') r

abbrev pub figures_of : Quoted → Figures
figures_of q = record { registers = q.registers; largest = q.largest; number = q.number }

abbrev pub QuoteCall : List ℕ → Figures → ℕ → Figures → Type 0
QuoteCall t f r f' = Coded (λ s. (found : Figures) × Quotes t s found.registers found.largest found.number × (f' ≡ put_back s found f)) r

abbrev pub RailsCall : (t table : List ℕ) → ℕ → List ℕ → Type 0
RailsCall t table r table' = Coded (λ s. Rails t table s table') r

-- What retiming owes, without bytes. proofs/retimer/Demand shows it of every sound netlist; retime's demand 3 rests on it.
--   Solution            the answer: the least retiming's lags, and the best number that carries the start there
--   Verdict             the retimer's five ends
--   Demand              demand 3 of a circuit
use Rattle.std.specs.Prelude.{◌≡◌, List, ℕ, ◌<◌, ℤ}
use Rattle.theory.specs.Graph.{Graph, Pin}
use Rattle.theory.specs.Clock.{Regs, Trace}
use Rattle.theory.specs.Lag.{Least}
use Rattle.theory.specs.Move.{Moved, choice_of, Best}
use Rattle.theory.specs.Retimer.{NoRetiming, Possible, retimed, NoStart, TooWide, Narrow, TooMany}

-- The answer: the least retiming's lags, and the best number that carries the start there.
pub record Solution (gate : ℕ → List ℕ → ℕ) (G : Graph) (R : Regs) (delay : ℕ → ℕ) (period : ℕ) (r : ℕ → ℤ) (c : ℕ) : Type 0 where
  pub least : Least G R.count delay period r
  pub best : Best gate G R r c

-- The retimer's five ends. "Each is given when its fact holds and no earlier one does": 8, 9, 10, 11.
pub data Verdict (gate : ℕ → List ℕ → ℕ) (G : Graph) (R : Regs) (delay : ℕ → ℕ) (period : ℕ) : Type 0 where
  no_retiming : NoRetiming G R.count delay period → Verdict gate G R delay period
  too_wide : (r : ℕ → ℤ) → Least G R.count delay period r → (e : ℕ) → TooWide G R.count r e → Verdict gate G R delay period
  too_many : (r : ℕ → ℤ) → Least G R.count delay period r → Narrow G R.count r → TooMany G R.count r → Verdict gate G R delay period
  no_start : (r : ℕ → ℤ) → Least G R.count delay period r → Narrow G R.count r → ¬ TooMany G R.count r → NoStart gate G R r
      → Verdict gate G R delay period
  -- a retimed netlist comes back
  answered : (r : ℕ → ℤ) (c : ℕ) → Solution gate G R delay period r c → Narrow G R.count r → ¬ TooMany G R.count r → Verdict gate G R delay period

-- Demand 3. Only the verdict knows the limits of 9 and 10: the rest holds of every netlist, those left out by the demand too.
pub record Demand (gate : ℕ → List ℕ → ℕ) (G : Graph) (R : Regs) (delay : ℕ → ℕ) (period : ℕ) : Type 0 where
  -- Every netlist has an end.
  pub verdict : Verdict gate G R delay period
  -- "A retimed netlist comes back exactly when some legal retiming meets the period and carries the start."
  pub comes_back : Possible gate G R delay period → (r : ℕ → ℤ) × (c : ℕ) × Solution gate G R delay period r c
  pub only_then : (r : ℕ → ℤ) (c : ℕ) → Solution gate G R delay period r c → Possible gate G R delay period
  -- Where the least retiming has no start, no legal retiming that meets the period has one.
  pub no_other : (r : ℕ → ℤ) → Least G R.count delay period r → NoStart gate G R r → ¬ Possible gate G R delay period
  -- "It is the original moved by its lags as document 01 says, with the start taken there", on whatever inputs the original's values are looked at.
  pub moved : (r : ℕ → ℤ) (c : ℕ) → Solution gate G R delay period r c → (ins x : ℕ → ℕ → ℕ) → Trace gate G R ins x
      → Moved G R (retimed gate G R r c) r (choice_of G R.count r c) x
  -- There is one answer.
  pub one : (r q : ℕ → ℤ) (c d : ℕ) → Solution gate G R delay period r c → Solution gate G R delay period q d
      → ((v : ℕ) → v < G.nodes → r v ≡ q v) × (c ≡ d)
  -- "For every list of input vectors …, running the original and running the retimed netlist, each by document 01's clocks from its own start values,
  -- give … the same outputs at every clock." Both run on all inputs, and whatever their traces are, they agree at the pins.
  pub runs : (ins : ℕ → ℕ → ℕ) → (x : ℕ → ℕ → ℕ) × Trace gate G R ins x
  pub retimed_runs : (r : ℕ → ℤ) (c : ℕ) → Solution gate G R delay period r c
      → (ins : ℕ → ℕ → ℕ) → (y : ℕ → ℕ → ℕ) × Trace gate G (retimed gate G R r c) ins y
  pub same : (r : ℕ → ℤ) (c : ℕ) → Solution gate G R delay period r c
      → (ins x y : ℕ → ℕ → ℕ) → Trace gate G R ins x → Trace gate G (retimed gate G R r c) ins y
      → (v t : ℕ) → v < G.nodes → Pin G v → y v t ≡ x v t

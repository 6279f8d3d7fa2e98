-- For users: what reads is what `least` asks for, and the lag of a label in the theory's words.
--   read_sure           a netlist that reads is one that `least` takes
--   lag_label           label = 16,384 + lag
--   lag_up, lag_fits    a lag's positive part; it is a 32-bit number
use Prim.Native.Nat.{ℕ, suc, ◌+◌, ◌-◌, ◌<◌, ◌≤◌}
use native.Mathlib.Omega.{arith}
use native.Mathlib.Decide.{dec_lt}
use mathlib.Core.Path.{◌≡◌}
use mathlib.Core.Bool.{Bool, true, false, cond}
use mathlib.Core.List.{List}
use mir.Syntax.{w32}
use mir.Val.{SFits}
use lib.Dec.{ltb}
use lib.IntN.{pos, negsuc}
use lib.Signed.{mag}
use Rattle.theory.specs.Lag.{up}
use Rattle.theory.proofs.numbers.Whole.{no_down}
use Rattle.theory.proofs.labels.Bias.{Label, label_lag}
use Rattle.netlist.specs.declared.Netlist.{Netlist}
use Rattle.netlist.specs.Answer.{value}
use Rattle.netlist.specs.Read.{Reads}
use Rattle.netlist.proofs.theorems.Lines.{lines_fact}
use Rattle.netlist.proofs.theorems.Sound.{reads_value, read_is_sound}
use Rattle.lags.specs.inner.Lags.{lag_of, Sure}

pub read_sure : (t : List ℕ) (net : Netlist) → Reads t (value 0) net → Sure net
read_sure t net r = record {
  fit = ((lines_fact t net).0 (reads_value r).0).0;
  no_loop = (read_is_sound t net r).no_loop;
  fed = (read_is_sound t net r).from_input;
}

pub lag_label : (l : ℕ) → Label 16384 (lag_of l) l
unfolding lag_of
lag_label l = label_lag 16384 l

pub lag_up : (l : ℕ) → up (lag_of l) ≡ l - 16384
lag_up l = go (dec_lt 0 (up (lag_of l)))
  where
    go : Dec (0 < up (lag_of l)) → up (lag_of l) ≡ l - 16384
    go (yes k) = omega (arith, lag_label l, no_down (lag_of l) k)
    go (no k) = omega (arith, lag_label l)

mag_by : (a b : ℕ) (t : Bool) → mag (cond t (negsuc (b - suc a)) (pos (a - b))) ≤ a + b
mag_by a b true = omega arith
mag_by a b false = omega arith

pub lag_fits : (l : ℕ) → l < 32768 → SFits w32 (lag_of l)
unfolding lag_of
lag_fits l h = record { sfits = omega (arith, mag_by l 16384 (ltb l 16384)) }

-- What the program `listing` prints. Document 01, "Bench cards".
--   twos z              the lag z as a number of two bytes
--   lag_line lags v     the line of node v's lag
--   listed              the new text and the lines of the lags; or the line of the refusal
--   Prints t p          of the text t the bytes p are printed
--   PrintsWhole t r     r holds what is printed of the text t
use Rattle.std.specs.Prelude.{◌≡◌, List, [], ◌∷◌, ◌++◌, ℕ, ◌+◌, ◌-◌, ◌%◌, ℤ, pos, length, get_or, take, drop, replicate}
use Rattle.io.specs.Counts.{IsPrefixLen}
use Rattle.theory.specs.Lag.{up, down}
use Rattle.frame.specs.Frame.{bytes_of, line_of}
use Rattle.netlist.specs.declared.Netlist.{Netlist}
use Rattle.netlist.specs.Answer.{Said, value, refused}
use Rattle.netlist.specs.Net.{zeros, plain}
use Rattle.netlist.specs.Read.{Reads}
use Rattle.netlist.specs.Write.{joined, text_of}
use Rattle.retime.specs.Retime.{Retimes}
use Rattle.printing.specs.Shown.{refusal_line}
use Rattle.printing.specs.declared.Printed.{Printed}

-- "two's complement"
unfoldable pub twos : ℤ → ℕ
twos z = (up z + (65536 - down z)) % 65536

-- "per node a frame `04`: node (2), lag (2, two's complement)"
abbrev pub lag_line : List ℤ → ℕ → List ℕ
lag_line lags v = line_of ((4 ∷ []) ++ bytes_of 2 v ++ bytes_of 2 (twos (get_or lags v (pos 0))))

-- "It prints the new text, then per node a frame"; "A refusal prints `0F` …".
abbrev pub listed : Said → List ℕ → List ℤ → ℕ → List ℕ
listed (value k) new lags nodes = new ++ joined (lag_line lags) nodes
listed (refused q k p) new lags nodes = refusal_line (refused q k p)

-- What retiming says of the text and leaves, in a buffer as long as the text and a table of 512 lags; and the netlist of the text, for the length of the new text ("same length") and its number of nodes.
pub record Prints (t p : List ℕ) : Type 0 where
  pub said : Said
  pub new : List ℕ
  pub lags : List ℤ
  pub retimes : Retimes t (zeros (length t)) (replicate 512 (pos 0)) said new lags
  pub read : Said
  pub net : Netlist
  pub reads : Reads t read net
  pub prints : p ≡ listed said (take (length (text_of (plain net))) new) lags net.nodes

-- What is printed of the text, however long it is, stands at the front, and 0 past it.
pub record PrintsWhole (t : List ℕ) (r : Printed) : Type 0 where
  pub printed : List ℕ
  pub prints : Prints t printed
  pub count : r.len ≡ length printed
  pub bytes : r.bytes ≡ printed ++ drop (length printed) (zeros 38400)
  -- So `&bytes[..len]` is `printed`.
  pub counts : IsPrefixLen r.len r.bytes

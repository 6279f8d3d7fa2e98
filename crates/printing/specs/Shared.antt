-- What is printed of a text's rails: the registers that are paid for where the branches of one node share them.
--   total_line n        the line of the total n
--   rail_line table v   the line of node v's rails, which the table has
--   rail_lines n table m the line of the total n, then that of each of m nodes
--   shown_rails s table m   what is printed of a count that says s and leaves `table`: these lines, or the line of its refusal
--   PrintsRails t old table out r new    the rails of the text t counted into a table that held `old`, printed into a buffer that held `out`
use Rattle.std.specs.Prelude.{◌≡◌, List, [], ◌∷◌, ◌++◌, ℕ, get_or}
use Rattle.frame.specs.Frame.{bytes_of, line_of, placed}
use Rattle.netlist.specs.Answer.{Said, value, refused}
use Rattle.netlist.specs.Write.{joined}
use Rattle.rails.specs.Rails.{Rails}
use Rattle.printing.specs.Shown.{refusal_line, line_in}

-- `0A`, total (4).
abbrev pub total_line : ℕ → List ℕ
total_line n = line_of ((10 ∷ []) ++ bytes_of 4 n)

-- `0B`, node (2), its rails (4).
abbrev pub rail_line : List ℕ → ℕ → List ℕ
rail_line table v = line_of ((11 ∷ []) ++ bytes_of 2 v ++ bytes_of 4 (get_or table v 0))

abbrev pub rail_lines : ℕ → List ℕ → ℕ → List ℕ
rail_lines n table m = total_line n ++ joined (rail_line table) m

abbrev pub shown_rails : Said → List ℕ → ℕ → List ℕ
shown_rails (value n) table m = rail_lines n table m
shown_rails (refused q k p) table m = refusal_line (refused q k p)

-- `table` and `new` are what the table and the buffer hold in the end; r is how many bytes of `new` are printed.
pub record PrintsRails (t old table out : List ℕ) (r : ℕ) (new : List ℕ) : Type 0 where
  pub said : Said
  pub rails : Rails t old said table
  pub result : r ≡ line_in (shown_rails said table rails.net.nodes) out
  pub buffer : new ≡ placed out 0 (shown_rails said table rails.net.nodes)

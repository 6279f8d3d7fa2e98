-- What the stages of checking a record owe each other.
--   rows_to m f n       m rows: f 0, f 1, … n of them, and 0 in the others
--   cut net n m         the record of the first n nodes and the first m edges of net
use Rattle.std.specs.Prelude.{List, ℕ, zero, suc, get_or, set}
use Rattle.netlist.specs.declared.Netlist.{Netlist}
use Rattle.netlist.specs.Net.{zeros, net_with}

unfoldable pub rows_to : ℕ → (ℕ → ℕ) → ℕ → List ℕ
rows_to m f zero = zeros m
rows_to m f (suc n) = set (rows_to m f n) n (f n)

abbrev pub cut : Netlist → ℕ → ℕ → Netlist
cut net n m =
    net_with net.period net.derate net.nodes net.edges
    (rows_to 512 (λ v. get_or net.kind v 0) n) (rows_to 512 (λ v. get_or net.delay v 0) n)
    (rows_to 1024 (λ e. get_or net.from e 0) m) (rows_to 1024 (λ e. get_or net.to e 0) m)
    (rows_to 1024 (λ e. get_or net.count e 0) m) (rows_to 1024 (λ e. get_or net.start e 0) m)

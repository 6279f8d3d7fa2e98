-- What a record in code holds: in every row a number of its column's type.
--   rows_below          every row of a column, and 0 past the last one, is below the bound of its type
--   typed_record        a record in code is one of the types in src/lib.rt
use Prim.Native.Nat.{ℕ, zero, suc, ◌^◌, ◌<◌}
use mathlib.Core.List.{List, [], ◌∷◌}
use lib.ListN.{get_or}
use lib.Pow.{pow_pos}
use mir.Syntax.{Width, w8, w16, w32}
use mir.Val.{Val, bits}
use denote.Shadow.{shadow}
use denote.Laws.{Is}
use denote.Plain.{UInt}
use denote.Array.{each}
use Rattle.netlist.specs.declared.Netlist.{Netlist}
use Rattle.netlist.specs.Theorems.{Typed}
use Rattle.netlist.specs.contracts.Netlist as N

-- Code has a column as the list of its rows' numbers.
rows_below : (w : Width) (xs : List ℕ) (us : List Val) → shadow (each ℕ (UInt w).own_val xs us) → (i : ℕ) → get_or xs i 0 < 2 ^ bits w
rows_below w [] us h i = pow_pos (bits w)
rows_below w (x ∷ xs) [] h i = absurd h
rows_below w (x ∷ xs) (u ∷ us) h zero = h.0.1
rows_below w (x ∷ xs) (u ∷ us) h (suc i) = rows_below w xs us h.1 i

pub typed_record : {net : Netlist} {vs : List Val} → Is N.the_row net vs → Typed net
typed_record {net} g =
    let h = g.1.1 in
    let k = h.1.1.1.1 in
    let e = k.1.1 in
    record {
      head = (h.0.1, h.1.0.1, h.1.1.0.1, h.1.1.1.0.1);
      node = λ v. (rows_below w8 net.kind _ k.0.1.1 v, rows_below w8 net.delay _ k.1.0.1.1 v);
      edge = λ v. (
        rows_below w16 net.from _ e.0.1.1 v,
        rows_below w16 net.to _ e.1.0.1.1 v,
        rows_below w8 net.count _ e.1.1.0.1.1 v,
        rows_below w32 net.start _ e.1.1.1.0.1.1 v,
      );
    }
